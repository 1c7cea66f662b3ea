use Rattle.nr_peel.proofs.Common.{◌≡◌, ◌+◌, ◌*◌, ◌^◌, ◌++◌, true, vec_capacity, step_along, steps_below}
use Rattle.nr_peel.proofs.bit_parallel.steps.push_run.Given as goal

-- the steps of the first b rows are there
abbrev pub invariant-loop-b : goal.invariant-loop-b
invariant-loop-b l = record {
  number : l.number ≡ l.first + l.b * (2 ^ 16 + 2 ^ 32);
  steps : l.order.items ≡ l.initial.order.items ++ steps_below (step_along l.first) (λ b. true) l.b;
  capacity : vec_capacity l.order ≡ vec_capacity l.initial.order;
}
