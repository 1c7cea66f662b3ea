use Rattle.nr_blockdesk.proofs.Common.{◌≡◌, ℕ, ◌+◌, ◌<◌, ◌==◌, ◌||◌, length, sym, ap, ◌∙◌, arith}
use Rattle.nr_blockdesk.proofs.Common.{eqb-true, bit, marks_with, says}
use Rattle.nr_blockdesk.proofs.TurnFacts.{same_bits, whole_folded, word_folded}
use Rattle.nr_blockdesk.proofs.selected.Selected.fold_word.Goals as goal

-- every bit was received, and no two differ
pub returns-then-self-clause-said : goal.returns-then-self-clause-said
returns-then-self-clause-said c = λ clean k v.
    let bits = c.args.self.now.value.items in
    let same : (j : ℕ) → j < c.args.count → bit bits (c.args.at + j) ≡ bit bits (c.args.from + c.args.at + j) = λ j below.
    let few : j < 64 = omega (arith, below, c.requires.count) in
    sym (c.window.ensures j few)
    ∙ ap (λ n. n == 1) (same_bits c.window.result c.window-bits.result c.low_bits.result c.args.count j c.low_bits.ensures.low
    (eqb-true c.low_bits.result 0 clean) below) ∙ c.window-bits.ensures j few in
    rw c.if-self.true (whole_folded bits (length bits) c.args.from c.args.at c.args.count c.requires.inside same k v)

pub returns-clause-said : goal.returns-clause-said
returns-clause-said c = λ clean k v.
    let s = c.args.self.now in
    rw c.if-self.false (c.merge_word.ensures.says clean k v
    ∙ ap (λ t. says (marks_with s.heard.items s.value.items) k v || t)
    (word_folded s.heard.items s.value.items c.args.from c.args.at c.args.count c.window-now.result c.window-bits.result
    c.requires.count c.window-now.ensures c.window-bits.ensures k v))
