use Rattle.nr_linkcommands.proofs.Common.{◌+◌, ◌≡◌, ◌≤◌, replicate, empty_slot}
use Rattle.std.specs.Prelude.{vec_len, vec_capacity}
use Rattle.nr_linkcommands.proofs.run_command.slot.empty_slots.Given as goal

-- the number of slots so far
abbrev pub invariant-loop : goal.invariant-loop
invariant-loop l = record {
  none : l.slots.items ≡ replicate l.counter empty_slot;
  room : vec_len l.slots + l.count ≤ vec_capacity l.slots + l.counter;
}
