-- The bits so far are in the list. If more are wanted, the list has `back` of them at least, which are whole turns of
-- the buffer.
use Rattle.nr_ratematch.proofs.Common.{◌≡◌, ◌+◌, ◌-◌, ◌<◌, ◌≤◌, ◌++◌, selection_of}
use Rattle.nr_ratematch.proofs.selection.select_onto.Given as goal

abbrev pub decreases-loop-k : goal.decreases-loop-k
decreases-loop-k l = l.e - l.k

abbrev pub invariant-loop-k : goal.invariant-loop-k
invariant-loop-k l = record {
  taken : l.bits.items ≡ l.fn.bits.items ++ selection_of l.buffer l.word l.rv l.k;
  room : l.bits.room + l.k ≡ l.fn.bits.room;
  below : l.k ≤ l.e;
  turned : l.k < l.e → l.back ≤ l.k;
}
