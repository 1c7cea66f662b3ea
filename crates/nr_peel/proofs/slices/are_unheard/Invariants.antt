use Rattle.nr_peel.proofs.Common.{◌≡◌, ◌+◌, ◌*◌, ◌<◌, ℕ, true, false, bit, info_cols_of, slice}
use Rattle.nr_peel.proofs.slices.are_unheard.Given as goal

-- the own columns so far are blank
abbrev pub invariant-loop-i : goal.invariant-loop-i
invariant-loop-i l = (k j u : ℕ) → k < l.i → u < l.lifted.plan.z → bit l.left_out k ≡ true
    → slice l.known j ((info_cols_of l.lifted.plan.graph + k) * l.lifted.plan.z + u) ≡ false
