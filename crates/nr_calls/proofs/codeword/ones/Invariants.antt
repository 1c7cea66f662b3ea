use Rattle.nr_calls.proofs.Common.{◌≡◌, ◌+◌, ◌≤◌, length, map, take, is_one}
use Rattle.nr_calls.proofs.codeword.ones.Given as goal

-- the bits of the octets so far
abbrev pub invariant-loop-octet : goal.invariant-loop-octet
invariant-loop-octet l = record {
  so_far : l.bits.items ≡ map is_one (take l.octet-index l.octets);
  room : length l.octets ≤ l.bits.room + l.octet-index;
}
