-- The count of the code blocks so far.
use Rattle.nr_ratematch.proofs.Common.{◌≡◌, ◌≤◌, is_scheduled, scheduled_count}
use Rattle.nr_ratematch.proofs.sharing.scheduled_of.Given as goal

abbrev pub invariant-loop-r : goal.invariant-loop-r
invariant-loop-r l = record {
  counted : l.count ≡ scheduled_count (is_scheduled l.mask) l.r;
  few : l.count ≤ l.r;
}
