use Rattle.nr_peel.proofs.Common.{arith, is_set, nat_tests, true}
use Rattle.nr_peel.proofs.DueBlockFacts.{kept_low, due_more, kept_lower}
use Rattle.nr_peel.proofs.bit_parallel.row_counts.RowCounts.lower.Goals as goal

pub invariant_of-self : goal.invariant_of-self
invariant_of-self g c =
    kept_lower c.self.inside.planes _ c.self.inside.due c.args.i (is_set c.args.lane.now) c.self.invariant
    (grind (arith, kept_low)) c.lower_each.ensures.lanes c.lower_each.ensures.long
    (λ h t below. grind (arith, nat_tests, c.lower_each.ensures.falls h t below, c.requires.whole))

pub invariant_of-self-else-whole : goal.invariant_of-self-else-whole
invariant_of-self-else-whole g c =
    kept_lower c.self.inside.planes _ c.self.inside.due c.args.i (is_set c.args.lane.now) c.self.invariant
    (grind (arith, kept_low)) c.lower.ensures.lanes c.lower.ensures.long c.lower.ensures.falls

pub returns-then-whole-clause-due : goal.returns-then-whole-clause-due
returns-then-whole-clause-due g c = rw (← c.self.view_is) (due_more c.self.inside.due c.args.i true (grind (arith, kept_low)))

pub returns-else-whole-clause-due : goal.returns-else-whole-clause-due
returns-else-whole-clause-due g c = rw (← c.self.view_is) (due_more c.self.inside.due c.args.i true (grind (arith, kept_low)))
