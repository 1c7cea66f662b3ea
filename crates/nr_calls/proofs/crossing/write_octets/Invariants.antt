use Rattle.nr_calls.proofs.Common.{◌≡◌, ℕ, ◌*◌, ◌<◌, drop, get_or, number_of}
use Rattle.nr_calls.proofs.crossing.write_octets.Given as goal

-- the octets of the words so far
abbrev pub invariant-loop-i : goal.invariant-loop-i
invariant-loop-i l = (k : ℕ) → k < 8 * l.i → get_or l.out k 0 ≡ number_of 8 (drop (8 * k) l.bits.items)

-- the octets so far
abbrev pub invariant-loop-i-2 : goal.invariant-loop-i-2
invariant-loop-i-2 l = (k : ℕ) → k < l.i → get_or l.out k 0 ≡ number_of 8 (drop (8 * k) l.bits.items)
