use Rattle.nr_calls.proofs.Common.{◌≡◌, ◌<◌, ◌≤◌, ◌==◌, if◌then◌else◌, ℕ, length, slice_index}
use Rattle.nr_calls.proofs.batch.masked.Given as goal

-- the rounds so far
abbrev pub invariant-loop-j : goal.invariant-loop-j
invariant-loop-j l = record {
  done : (k : ℕ) → k < l.j
      → slice_index l.row k ≡ (if slice_index l.delivered k == 0 then slice_index l.counts k else 0);
  later : (k : ℕ) → l.j ≤ k → slice_index l.row k ≡ 0;
  long : length l.row ≡ 64;
}
