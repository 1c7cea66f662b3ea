use Rattle.nr_calls.proofs.Common.{◌≡◌, ◌<◌, ℕ, get_or, bit, digit}
use Rattle.nr_calls.proofs.joining.write_passed.Given as goal

-- the octets so far
abbrev pub invariant-loop-r : goal.invariant-loop-r
invariant-loop-r l = (k : ℕ) → k < l.r → get_or l.out k 0 ≡ digit (bit l.passed k)
