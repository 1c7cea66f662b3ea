use Rattle.nr_calls.proofs.Common.{◌≡◌, ◌<◌, ◌≤◌, ◌==◌, ◌||◌, not, ℕ, slice_index, bit}
use Rattle.nr_calls.proofs.batch.keep_going.Given as goal

-- the rounds so far
abbrev pub invariant-loop-j : goal.invariant-loop-j
invariant-loop-j l = record {
  done : (k : ℕ) → k < l.j → bit l.going k ≡ (bit l.initial.going k || not (slice_index l.left k == 0));
  later : (k : ℕ) → l.j ≤ k → bit l.going k ≡ bit l.initial.going k;
}
