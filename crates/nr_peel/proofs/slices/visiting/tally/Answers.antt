use Rattle.nr_peel.proofs.{Common.slice, SliceFacts.both_more, SliceFacts.both_some}
use Rattle.nr_peel.proofs.slices.visiting.tally.Goals as goal

pub returns-clause-some : goal.returns-clause-some
returns-clause-some c = λ j t short lane.
    both_some c.args.z c.args.rotation c.args.from t c.requires.rotation lane (slice c.args.known.now j) _ _ _
    (c.tally_run.ensures.some j t short) (c.tally_run-2.ensures.some j t short)

pub returns-clause-more : goal.returns-clause-more
returns-clause-more c = λ j t short lane.
    both_more c.args.z c.args.rotation c.args.from t c.requires.rotation lane (slice c.args.known.now j) _ _ _ _ _
    (c.tally_run.ensures.some j t short) (c.tally_run.ensures.more j t short) (c.tally_run-2.ensures.more j t short)
