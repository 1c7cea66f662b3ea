use Rattle.nr_peel.proofs.{Common.arith, FillerFacts.fillers_are}
use Rattle.nr_peel.proofs.progress.filler_marks.Goals as goal

pub returns : goal.returns
returns c = fillers_are _ _ _ _ _
    (omega (arith, c.loop-pos.auto.pos-end c.args.lifted.now.plan.sound.held)) c.loop-pos.invariant.long c.loop-pos.invariant.marked
