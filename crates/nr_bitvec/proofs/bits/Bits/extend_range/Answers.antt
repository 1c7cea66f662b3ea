use Rattle.nr_bitvec.proofs.Common.{◌≡◌, ◌+◌, ◌-◌, ◌++◌, ◌∙◌, take, drop, ap, sym, length-append, drop-drop}
use Rattle.nr_bitvec.proofs.{Common.arith, PackedListFacts.length-low_first, RangeWordFacts.range-word, RangeWordFacts.taken-more}
use Rattle.nr_bitvec.proofs.bits.Bits.extend_range.Goals as goal

pub extend_filled-requires-clause-filled : goal.extend_filled-requires-clause-filled
extend_filled-requires-clause-filled c = grind (arith, length-append, length-low_first)

-- The first bits fill the list's last word, and the others follow: together they are the `count` bits from `at` on.
pub returns-then-first-count-clause-items : goal.returns-then-first-count-clause-items
returns-then-first-count-clause-items c =
    let first = c.min-first.result in
    let rest = drop c.args.at c.args.from.now.items in
    let all : first + (c.args.count - first) ≡ c.args.count = omega (arith, c.if-first-count.true) in
    taken-more c.args.self.now.items c.push_word.new.self.items c.extend_filled.new.self.items rest
    (take (c.args.count - first) (drop (c.args.at + first) c.args.from.now.items)) first (c.args.count - first)
    (c.push_word.ensures.items
    ∙ ap (λ bits. c.args.self.now.items ++ bits)
    (range-word c.args.from.now.items c.args.at first c.window.result (omega (arith, c.min-first.ensures))
    (omega (arith, c.requires.inside, c.min-first.ensures)) c.window.ensures))
    c.extend_filled.ensures.items (ap (take (c.args.count - first)) (sym (drop-drop first c.args.at c.args.from.now.items)))
    ∙ ap (λ n. c.args.self.now.items ++ take n rest) all

pub returns-else-first-count-clause-items : goal.returns-else-first-count-clause-items
returns-else-first-count-clause-items c =
    let all : c.min-first.result ≡ c.args.count = omega (arith, c.if-first-count.false, c.min-first.ensures) in
    c.push_word.ensures.items
    ∙ ap (λ bits. c.args.self.now.items ++ bits)
    (range-word c.args.from.now.items c.args.at c.min-first.result c.window.result (omega (arith, c.min-first.ensures))
    (omega (arith, c.requires.inside, c.min-first.ensures)) c.window.ensures
    ∙ ap (λ n. take n (drop c.args.at c.args.from.now.items)) all)
