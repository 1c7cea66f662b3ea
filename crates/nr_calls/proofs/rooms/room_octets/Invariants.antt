use Rattle.nr_calls.proofs.Common.{◌≡◌, ◌++◌, take, flat_map, record_octets}
use Rattle.nr_calls.proofs.rooms.room_octets.Given as goal

-- the octets of the records so far
abbrev pub invariant-loop-store : goal.invariant-loop-store
invariant-loop-store l = l.octets.items ≡ l.initial.octets.items ++ flat_map record_octets (take l.store-index l.stores)
