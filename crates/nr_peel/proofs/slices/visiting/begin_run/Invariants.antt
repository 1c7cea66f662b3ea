use Rattle.nr_peel.proofs.Common.{◌≡◌, ◌+◌, ◌-◌, ◌<◌, ◌||◌, ◌&&◌, ℕ, not, length, slice, is_in_run}
use Rattle.nr_peel.proofs.slices.visiting.begin_run.Given as goal

-- the rows so far are begun
abbrev pub invariant-loop-k : goal.invariant-loop-k
invariant-loop-k l = record {
  some : (j t : ℕ) → j < 64 → slice l.some j t
      ≡ ((is_in_run l.at l.k t && not (slice l.known j (l.from + (t - l.at))))
      || (not (is_in_run l.at l.k t) && slice l.initial.some j t));
  more : (j t : ℕ) → j < 64 → slice l.more j t ≡ (not (is_in_run l.at l.k t) && slice l.initial.more j t);
  some_long : length l.some ≡ length l.initial.some;
  more_long : length l.more ≡ length l.initial.more;
}
