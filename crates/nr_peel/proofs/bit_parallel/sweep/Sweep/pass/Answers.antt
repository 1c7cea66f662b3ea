use Rattle.nr_peel.proofs.Common.{◌≡◌, arith}
use Rattle.nr_peel.proofs.RoundInvariantFacts.{passes_more, passes_none}
use Rattle.nr_peel.proofs.bit_parallel.sweep.Sweep.pass.Goals as goal

pub loop-i-init : goal.loop-i-init
loop-i-init g c = record { passes = passes_none c.requires.held }

pub visit-found-requires : goal.visit-found-requires
visit-found-requires g c =
    (omega arith, (c.requires.table, (omega (arith, c.requires.few), c.loop-i.invariant.passes.on.held)))

pub loop-i-preserved : goal.loop-i-preserved
loop-i-preserved g c = record { passes = passes_more c.loop-i.invariant.passes c.visit-found.ensures }

pub returns : goal.returns
returns g c =
    let all : c.loop-i.i ≡ c.args.rows = omega arith in
    rw all at c.loop-i.invariant.passes
