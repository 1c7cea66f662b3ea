use Rattle.nr_peel.proofs.{Common.slice, SliceFacts.both_filled}
use Rattle.nr_peel.proofs.slices.visiting.fill.Goals as goal

pub returns-clause-filled : goal.returns-clause-filled
returns-clause-filled c = λ j p short.
    both_filled c.args.z c.args.rotation c.args.from p (slice c.args.sets.now j) c.requires.rotation _ _ _
    (c.fill_run.ensures.filled j p short) (c.fill_run-2.ensures.filled j p short)
