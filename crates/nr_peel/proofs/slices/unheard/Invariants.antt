use Rattle.nr_peel.proofs.Common.{◌≡◌, ◌≤◌, ℕ, true, bit}
use Rattle.nr_peel.proofs.slices.unheard.Given as goal

-- none of the first four is left out
abbrev pub invariant-loop-i : goal.invariant-loop-i
invariant-loop-i l = (k : ℕ) → bit l.left_out k ≡ true → 4 ≤ k
