-- what was answered so far, and what the receiver has received
use Rattle.std.proofs.Common.{◌≡◌, ◌+◌, ◌≤◌, Ok, length, take}
use Rattle.std.specs.Prelude.{vec_len, vec_capacity}
use Rattle.nr_blockdesk.specs.Link.{Link, link_said}
use Rattle.nr_theorem.proofs.CarriedFacts.{HasCarried}
use Rattle.nr_theorem.proofs.transfer.carry.Given as goal

abbrev pub invariant-loop-arrival : goal.invariant-loop-arrival
invariant-loop-arrival l = record {
  so_far : (link : Link) → link_said l.fn.table l.fn.settings (length l.fn.block.items) ≡ Ok link
      → HasCarried link l.fn.block.items (take l.arrival-index l.arrivals) l.receiver l.answers.items l.outcome;
  room : vec_len l.answers + length l.arrivals ≤ vec_capacity l.answers + l.arrival-index;
}
