-- The bits so far are in the list, which has room for the others.
use Rattle.nr_interleave.proofs.Common.{◌≡◌, ◌+◌, ◌*◌, ◌/◌, ◌%◌, ◌++◌, map, range_with_len, bit}
use Rattle.nr_interleave.proofs.rows.by_seats.Given as goal

abbrev pub invariant-loop-k : goal.invariant-loop-k
invariant-loop-k l = record {
  items : l.selected.items ≡ l.initial.selected.items
      ++ map (λ k. bit l.bits.items (l.from + (l.qm * (k % (l.count / l.qm)) + k / (l.count / l.qm)))) (range_with_len 0 l.k);
  room : l.selected.room + l.k ≡ l.initial.selected.room;
}
