use Rattle.nr_peel.proofs.Common.{◌≡◌, ◌+◌, ◌<◌, ℕ, slice_index}
use Rattle.nr_peel.proofs.slices.is_blank.Given as goal

-- the words so far are zero
abbrev pub invariant-loop-u : goal.invariant-loop-u
invariant-loop-u l = (k : ℕ) → k < l.u → slice_index l.known (l.from + k) ≡ 0
