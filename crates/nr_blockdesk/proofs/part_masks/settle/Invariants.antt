-- The columns so far are settled.
use Rattle.nr_blockdesk.proofs.Common.{◌-◌, ◌*◌, ◌≤◌, heards_of, marks_in}
use Rattle.nr_blockdesk.specs.inside.Receiving.{AreSettled}
use Rattle.nr_blockdesk.proofs.part_masks.settle.Given as goal

abbrev pub decreases-loop-column : goal.decreases-loop-column
decreases-loop-column l = l.columns - l.column

abbrev pub invariant-loop-column : goal.invariant-loop-column
invariant-loop-column l = record {
  settled : AreSettled l.part.arrival.now.buffer.now l.part.arrival.now.tx.now (heards_of l.part)
      (l.part.arrival.now.tx.now.qm * l.column) (marks_in l.told) l.both;
  below : l.column ≤ l.columns;
}
