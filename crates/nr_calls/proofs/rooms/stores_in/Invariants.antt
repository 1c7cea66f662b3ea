use Rattle.nr_calls.proofs.{Common.◌≡◌, Common.◌-◌, Common.◌≤◌, Common.records_from, RoomOctetFacts.with_read}
use Rattle.std.specs.Vec.{vec_len, vec_capacity}
use Rattle.nr_calls.proofs.rooms.stores_in.Given as goal

-- the records so far were read, and the octets that are left have the others
abbrev pub invariant-loop : goal.invariant-loop
invariant-loop l = record {
  read : records_from l.positions l.c l.fn.octets ≡ with_read l.stores.items (records_from l.positions (l.c - l.counter) l.rest);
  many : vec_len l.stores ≡ l.counter;
  room : l.c ≤ vec_capacity l.stores;
}
