-- No position of the bits so far is told both bits.
use Rattle.nr_blockdesk.proofs.Common.{◌≡◌, ℕ, ◌+◌, ◌-◌, ◌<◌, ◌≤◌, false, marks_in, place_of}
use Rattle.nr_blockdesk.specs.inside.PartMasks.{is_listed_both}
use Rattle.nr_blockdesk.proofs.part_masks.row_has_both.Given as goal

abbrev pub decreases-loop-at : goal.decreases-loop-at
decreases-loop-at l = l.count - l.at

abbrev pub invariant-loop-at : goal.invariant-loop-at
invariant-loop-at l = record {
  none : (j : ℕ) → j < l.at → is_listed_both (marks_in l.told) (place_of l.buffer l.rv (l.k + j)) ≡ false;
  below : l.at ≤ l.count;
}
