use Rattle.nr_calls.proofs.Common.{◌≡◌, ◌+◌, ◌≤◌, map, range_with_len, left}
use Rattle.std.specs.Prelude.{vec_len, vec_capacity}
use Rattle.nr_calls.proofs.receiving.left_in.Given as goal

-- how much of the code blocks so far is left
abbrev pub invariant-loop-r : goal.invariant-loop-r
invariant-loop-r l = record {
  so_far : l.left.items ≡ map (left l.receiver.link l.receiver.heard) (range_with_len 0 l.r);
  room : vec_len l.left + l.count ≤ vec_capacity l.left + l.r;
}
