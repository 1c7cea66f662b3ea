use Rattle.nr_calls.proofs.Common.{◌≡◌, ℕ, ◌*◌, ◌<◌, get_or, length, bit, digit}
use Rattle.nr_calls.proofs.crossing.write_bits.Given as goal

-- the octets of the words so far
abbrev pub invariant-loop-i : goal.invariant-loop-i
invariant-loop-i l = (k : ℕ) → k < 64 * l.i → k < length l.bits.items → get_or l.out k 0 ≡ digit (bit l.bits.items k)
