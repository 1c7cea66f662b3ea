use Rattle.nr_peel.proofs.Common.{◌≡◌, ◌<◌, ℕ, true, bit}
use Rattle.nr_peel.proofs.check.all_known.Given as goal

-- the positions so far are marked
abbrev pub invariant-loop-p : goal.invariant-loop-p
invariant-loop-p l = (q : ℕ) → q < l.p → bit l.known.items q ≡ true
