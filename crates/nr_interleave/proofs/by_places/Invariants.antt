-- The bits of the places so far are in the list, which has room for the rest.
use Rattle.nr_interleave.proofs.Common.{◌≡◌, ◌+◌, ◌++◌, length, map, range_with_len, bit, seat_of}
use Rattle.nr_interleave.proofs.by_places.Given as goal

abbrev pub invariant-loop-m : goal.invariant-loop-m
invariant-loop-m l = record {
  placed : l.spread.items ≡ l.initial.spread.items ++ map (λ m. bit l.bits.items (seat_of l.qm (length l.bits.items) m))
      (range_with_len 0 l.m);
  room : l.spread.room + l.m ≡ l.initial.spread.room;
}
