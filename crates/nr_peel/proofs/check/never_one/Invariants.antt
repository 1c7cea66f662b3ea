use Rattle.nr_peel.proofs.Common.{◌≢◌, ℕ, ◌<◌, ◌/◌, ◌%◌, count_by, stands, lifted_checks}
use Rattle.nr_peel.proofs.check.never_one.Given as goal

-- no row so far has exactly one member
abbrev pub invariant-loop-k : goal.invariant-loop-k
invariant-loop-k l = (j : ℕ) → j < l.k
    → count_by (λ p. stands p l.set) ((lifted_checks l.lifted).row (j / l.z) (j % l.z)) ≢ 1
