use Rattle.nr_peel.proofs.Common.{◌≡◌, ◌<◌, ◌≤◌, ◌^◌, ◌+◌, ◌==◌, if◌then◌else◌, length, take}
use Rattle.nr_peel.proofs.Common.{vec_capacity, step_along, with_steps}
use Rattle.nr_peel.proofs.bit_parallel.steps.push_marked.Given as goal

-- the steps so far, followed by those of the rest, begin with the word's
abbrev pub invariant-bits : goal.invariant-bits
invariant-bits l = record {
  steps : take l.len (with_steps l.order.items (step_along l.first) l.rest)
      ≡ with_steps l.fn.order.items (step_along l.first) l.word;
  long : l.len ≤ length (with_steps l.order.items (step_along l.first) l.rest);
  room : length (with_steps l.order.items (step_along l.first) l.rest) ≤ l.len + (if l.rest == 0 then 2 else 0);
  fits : l.rest < 2 ^ 64;
  capacity : vec_capacity l.order ≡ vec_capacity l.fn.order;
}

abbrev pub decreases-bits : goal.decreases-bits
decreases-bits l = l.rest
