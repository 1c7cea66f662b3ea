use Rattle.nr_peel.proofs.Common.{arith, lifted_checks}
use Rattle.nr_peel.proofs.RoundInvariantFacts.{on_none, on_then, rows_fewer}
use Rattle.nr_peel.proofs.bit_parallel.sweep.Sweep.propagate.Goals as goal

pub passes-init : goal.passes-init
passes-init g c = record { on = on_none c.requires.held }

pub search-requires : goal.search-requires
search-requires g c = (omega arith, (c.requires.table, (c.awake-awake.ensures, c.passes.invariant.on.held)))

pub passes-smaller : goal.passes-smaller
passes-smaller g c =
    rows_fewer (lifted_checks c.args.lifted.now) c.passes.self c.search.new.self (c.search.ensures.rises c.passes-test.true)

pub passes-preserved : goal.passes-preserved
passes-preserved g c = record { on = on_then c.passes.invariant.on c.search.ensures.on }

pub returns-clause-given : goal.returns-clause-given
returns-clause-given g c = (on_then c.passes.invariant.on c.search.ensures.on).given

pub returns-clause-quiet : goal.returns-clause-quiet
returns-clause-quiet g c = rw c.search.ensures.on.keeps.same (c.search.ensures.quiet c.passes-test.false)

pub returns-clause-visited : goal.returns-clause-visited
returns-clause-visited g c = omega (arith, c.passes.invariant.on.visited, c.search.ensures.on.visited)

pub returns-clause-keeps : goal.returns-clause-keeps
returns-clause-keeps g c = (on_then c.passes.invariant.on c.search.ensures.on).keeps
