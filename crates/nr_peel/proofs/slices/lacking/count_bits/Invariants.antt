use Rattle.nr_peel.proofs.Common.{◌≡◌, ◌+◌, ◌<◌, ◌≤◌, ◌==◌, if◌then◌else◌, ℕ, bit_at, slice_index}
use Rattle.nr_peel.proofs.slices.lacking.count_bits.Given as goal

-- the bits so far are counted
abbrev pub invariant-loop-j : goal.invariant-loop-j
invariant-loop-j l = record {
  done : (k : ℕ) → k < l.j
      → slice_index l.counts k ≡ slice_index l.initial.counts k + (if bit_at l.word k == 1 then 1 else 0);
  later : (k : ℕ) → l.j ≤ k → slice_index l.counts k ≡ slice_index l.initial.counts k;
}
