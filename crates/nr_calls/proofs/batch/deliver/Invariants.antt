use Rattle.nr_calls.proofs.Common.{◌≡◌, ◌<◌, ◌≤◌, ◌==◌, if◌then◌else◌, not, ℕ, slice_index, bit}
use Rattle.nr_calls.proofs.batch.deliver.Given as goal

-- the rounds so far
abbrev pub invariant-loop-j : goal.invariant-loop-j
invariant-loop-j l = record {
  done : (k : ℕ) → k < l.j → slice_index l.delivered k ≡ (if slice_index l.initial.delivered k == 0
      then (if not (bit l.going k) then l.n else 0) else slice_index l.initial.delivered k);
  later : (k : ℕ) → l.j ≤ k → slice_index l.delivered k ≡ slice_index l.initial.delivered k;
}
