use Rattle.nr_calls.proofs.Common.{◌≡◌, ◌++◌, ◌*◌, take, map, position_octet}
use Rattle.nr_calls.proofs.rooms.push_record.Given as goal

-- the octets of the positions so far
abbrev pub invariant-loop-i : goal.invariant-loop-i
invariant-loop-i l = l.octets.items ≡ l.initial.octets.items ++ map position_octet (take (64 * l.i) l.store.first)
