use Rattle.nr_shifttable.proofs.{Common.◌∙◌, Common.arith, Common.length-set, RowEndFacts.ends-left, RowEndFacts.starts-next}
use Rattle.nr_shifttable.proofs.starts.row_starts.Goals as goal

pub loop-row-preserved : goal.loop-row-preserved
loop-row-preserved c = record {
  starts = starts-next c.args.entries.now c.loop-row.row c.loop-row.starts c.max.result c.requires.order (omega arith)
      (omega (arith, c.loop-row.invariant.room, c.loop-row-test.true)) c.loop-row.invariant.starts
      (c.loop-row.invariant.ends c.loop-row.row (omega arith) c.loop-row-test.true) c.max.ensures;
  ends = ends-left c.args.entries.now c.loop-row.row c.loop-row.starts c.max.result c.loop-row.invariant.ends;
  room = length-set c.loop-row.starts c.loop-row.row c.max.result ∙ c.loop-row.invariant.room;
}
