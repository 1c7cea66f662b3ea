use Rattle.nr_calls.proofs.Common.{◌≡◌, ℕ, ◌<◌, ◌≤◌, get_or, length, bit_at, first_of, position_octet}
use Rattle.nr_calls.proofs.rooms.position_octets.Given as goal

-- the octets of the positions so far, and the bits of the others
abbrev pub invariant-loop-k : goal.invariant-loop-k
invariant-loop-k l = record {
  so_far : (j : ℕ) → j < l.k → get_or l.octets j 0 ≡ position_octet (first_of l.marks l.bits j);
  left : (j : ℕ) → l.k ≤ j → j < 64 → get_or l.octets j 0 ≡ bit_at l.bits j;
  long : length l.octets ≡ 64;
}
