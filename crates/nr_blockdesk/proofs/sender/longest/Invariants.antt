-- The longest of the lengths so far.
use Rattle.nr_blockdesk.proofs.Common.{ℕ, ◌<◌, ◌≤◌, sum, slice_index}
use Rattle.nr_blockdesk.proofs.sender.longest.Given as goal

abbrev pub invariant-loop-e : goal.invariant-loop-e
invariant-loop-e l = record {
  all : (r : ℕ) → r < l.e-index → slice_index l.lengths r ≤ l.longest;
  together : l.longest ≤ sum l.lengths;
}
