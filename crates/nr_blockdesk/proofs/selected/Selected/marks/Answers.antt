use Rattle.nr_blockdesk.proofs.Common.{◌+◌, ◌==◌, true, false, ap, sym, ◌∙◌, length, get_or-replicate, bit_at_ones}
use Rattle.nr_blockdesk.proofs.selected.Selected.marks.Goals as goal

pub returns-then-self : goal.returns-then-self
returns-then-self c = λ j few inside.
    let s = c.args.self.now in
    rw c.if-self.true (ap (λ n. n == 1) (bit_at_ones 64 j few)
    ∙ sym (get_or-replicate (length s.value.items) (c.args.k + j) true false inside))

pub returns-else-self : goal.returns-else-self
returns-else-self c = λ j few inside. rw c.if-self.false (c.window.ensures j few)
