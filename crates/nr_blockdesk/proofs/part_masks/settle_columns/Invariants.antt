-- The places so far are settled, and the cursors have given their positions.
use Rattle.nr_blockdesk.proofs.Common.{◌≡◌, given_count, place_count, heards_of, marks_in, AreCursors}
use Rattle.nr_blockdesk.specs.inside.Receiving.{AreSettled}
use Rattle.nr_blockdesk.proofs.part_masks.settle_columns.Given as goal

abbrev pub invariant-loop-m : goal.invariant-loop-m
invariant-loop-m l = record {
  settled : AreSettled l.part.arrival.now.buffer.now l.part.arrival.now.tx.now (heards_of l.part) l.m (marks_in l.told) l.both;
  cursors : AreCursors l.part.arrival.now.buffer.now l.part.arrival.now.tx.now.rv l.part.arrival.now.tx.now.qm l.cursors;
  places : place_count l.part.arrival.now.tx.now.qm l.cursors ≡ l.part.count;
  given : given_count l.part.arrival.now.tx.now.qm l.cursors ≡ l.m;
}
