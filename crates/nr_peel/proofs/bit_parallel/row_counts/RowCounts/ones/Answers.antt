use Rattle.nr_peel.proofs.Common.{sym, ◌∙◌, arith, place-zeros}
use Rattle.nr_peel.proofs.DueBlockFacts.{due_less, kept_low, kept_looked, kept_none}
use Rattle.nr_peel.proofs.bit_parallel.row_counts.RowCounts.ones.Goals as goal

-- a block is due as long as it has a count of one
pub invariant_of-self : goal.invariant_of-self
invariant_of-self g c =
    kept_looked c.self.inside.planes c.self.inside.due c.args.i c.ones-ones.result c.self.invariant (grind (arith, kept_low))
    (sym (c.lane_count.ensures.marked c.self.inside.planes.lanes c.ones-ones.ensures.clear)
    ∙ omega (arith, c.if-lane_count-eq0.true)) c.ones-ones.ensures.ones

-- a block that isn't due has no count of one
pub returns-then-not-self-i-clause-ones : goal.returns-then-not-self-i-clause-ones
returns-then-not-self-i-clause-ones g c =
    λ t below. rw (place-zeros g.row.W t, ← c.self.view_is)
    (sym (kept_none c.self.inside.planes c.self.inside.due c.args.i t c.self.invariant c.if-not-self-i.true
    (rw (← c.self.view_is) at below)))

-- a block that was read was due
pub returns-then-lane_count-eq0-clause-paid : goal.returns-then-lane_count-eq0-clause-paid
returns-then-lane_count-eq0-clause-paid g c =
    λ none. rw (← c.self.view_is) (grind (arith, due_less c.self.inside.due c.args.i (grind (arith, kept_low))))
