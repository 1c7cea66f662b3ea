use Rattle.nr_peel.proofs.{Common.slice, SliceFacts.both_begun, SliceFacts.both_none}
use Rattle.nr_peel.proofs.slices.visiting.begin.Goals as goal

pub returns-clause-some : goal.returns-clause-some
returns-clause-some c = λ j t short lane.
    both_begun c.args.z c.args.rotation c.args.from t c.requires.rotation lane (slice c.args.known.now j) _ _ _
    (c.begin_run.ensures.some j t short) (c.begin_run-2.ensures.some j t short)

pub returns-clause-more : goal.returns-clause-more
returns-clause-more c = λ j t short lane.
    both_none c.args.z c.args.rotation c.args.from t c.requires.rotation lane _ _ _
    (c.begin_run.ensures.more j t short) (c.begin_run-2.ensures.more j t short)
