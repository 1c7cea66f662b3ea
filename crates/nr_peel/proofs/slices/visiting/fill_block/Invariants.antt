use Rattle.nr_peel.proofs.Common.{◌≡◌, ◌<◌, ◌||◌, ◌&&◌, ℕ, length, take, any_below, stands, row_in, slice}
use Rattle.nr_peel.proofs.slices.visiting.fill_block.Given as goal

-- the rows' positions so far have their sets
abbrev pub invariant-loop-entry : goal.invariant-loop-entry
invariant-loop-entry l = record {
  filled : (j p : ℕ) → j < 64 → slice l.known j p ≡ (slice l.initial.known j p
      || any_below (λ t. slice l.sets j t && stands p (take l.entry-index (row_in l.lifted l.row t))) l.lifted.plan.z);
  long : length l.known ≡ length l.initial.known;
}
