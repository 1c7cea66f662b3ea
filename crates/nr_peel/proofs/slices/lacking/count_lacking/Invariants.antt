use Rattle.nr_peel.proofs.Common.{◌≡◌, ◌<◌, ℕ, not, count_by, slice_index, range_with_len, slice}
use Rattle.nr_peel.proofs.slices.lacking.count_lacking.Given as goal

-- the positions so far are counted
abbrev pub invariant-loop-p : goal.invariant-loop-p
invariant-loop-p l = (j : ℕ) → j < 64
    → slice_index l.lacking j ≡ count_by (λ q. not (slice l.known j q)) (range_with_len 0 l.p)
