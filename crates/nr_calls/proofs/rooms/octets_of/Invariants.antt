use Rattle.nr_calls.proofs.Common.{◌≡◌, take, flat_map, to_le_bytes, w32}
use Rattle.nr_calls.proofs.rooms.octets_of.Given as goal

-- the octets of the numbers so far
abbrev pub invariant-loop-number : goal.invariant-loop-number
invariant-loop-number l = l.octets.items ≡ flat_map (to_le_bytes w32) (take l.number-index l.numbers)
