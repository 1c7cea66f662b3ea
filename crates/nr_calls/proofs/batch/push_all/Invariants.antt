use Rattle.nr_calls.proofs.Common.{◌≡◌, ◌++◌, map, slice_index, range_with_len, column}
use Rattle.std.specs.List.{flat_map}
use Rattle.nr_calls.proofs.batch.push_all.Given as goal

-- the rounds so far
abbrev pub invariant-loop-j : goal.invariant-loop-j
invariant-loop-j l = record {
  delivered : l.rounds.delivered.items
      ≡ l.fn.rounds.delivered.items ++ map (slice_index l.batch.delivered) (range_with_len 0 l.j);
  left : l.rounds.left.items ≡ l.fn.rounds.left.items ++ flat_map (column l.batch.left.items) (range_with_len 0 l.j);
  erased : l.rounds.erased.items
      ≡ l.fn.rounds.erased.items ++ flat_map (column l.batch.erased.items) (range_with_len 0 l.j);
}
