use Rattle.nr_peel.proofs.Common.{◌≡◌, ◌*◌, ◌++◌, vec_capacity, is_set, step_in, steps_below}
use Rattle.nr_peel.proofs.bit_parallel.steps.push_lane.Given as goal

-- the steps of the words before word i are there
abbrev pub invariant-loop-i : goal.invariant-loop-i
invariant-loop-i g l = record {
  steps : l.taken.items ≡ l.initial.taken.items ++ steps_below (step_in l.entry.row (l.entry.col * l.size) l.size l.rotation)
      (is_set l.lane) (64 * l.i);
  capacity : vec_capacity l.taken ≡ vec_capacity l.initial.taken;
}
