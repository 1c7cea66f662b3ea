use Rattle.nr_peel.proofs.Common.{rules, false, block_checks, numbers, set_below, bit, replicate, slice}
use Rattle.nr_peel.proofs.{TableGridFacts.checks_sound, SliceSweepFacts.none_out, SliceSweepFacts.sweeps_done}
use Rattle.nr_peel.proofs.slices.close_slices.Goals as goal

pub invariant_of-lifted : goal.invariant_of-lifted
invariant_of-lifted c = search (rules, set_below)

pub returns-clause-closed : goal.returns-clause-closed
returns-clause-closed c = λ j p short.
    let ck = block_checks c.args.table.now c.args.plan.now.graph (numbers c.args.plan.now) in
    let sound = checks_sound _ _ (numbers c.args.plan.now) c.tables_are_sound.ensures c.args.plan.now.sound.size_some in
    let done = c.sweep_all.ensures in
    sweeps_done ck (bit (replicate 46 false)) (slice c.args.known.now j) c.sweep_all.new.known j sound short
    (λ i li. none_out 46 i) (done.kept j short) (done.inside j short) done.none p
