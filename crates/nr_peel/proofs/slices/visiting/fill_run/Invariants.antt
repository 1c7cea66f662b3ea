use Rattle.nr_peel.proofs.Common.{◌≡◌, ◌+◌, ◌-◌, ◌<◌, ◌||◌, ◌&&◌, ℕ, length, slice, is_in_run}
use Rattle.nr_peel.proofs.slices.visiting.fill_run.Given as goal

-- the positions so far have the rows' sets
abbrev pub invariant-loop-k : goal.invariant-loop-k
invariant-loop-k l = record {
  filled : (j p : ℕ) → j < 64 → slice l.known j p
      ≡ (slice l.initial.known j p || (is_in_run l.from l.k p && slice l.sets j (l.at + (p - l.from))));
  long : length l.known ≡ length l.initial.known;
}
