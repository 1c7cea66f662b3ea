-- The cycle's run, cut to what is asked for.
use Rattle.nr_ratematch.proofs.{Common.refl, Common.arith, RunFacts.run-places, RunFacts.run-inside}
use Rattle.nr_ratematch.proofs.buffer.Buffer.run.Goals as goal

pub returns-clause-places : goal.returns-clause-places
returns-clause-places c =
    run-places c.cycle-cycle.result c.args.self.now c.args.rv _ c.args.k c.min.result c.run-position.result.0
    c.cycle-cycle.ensures.places refl
    (omega (arith, c.min.ensures, c.run-position.ensures.inside))
    (λ j below. c.run-position.ensures.places j (omega (arith, c.min.ensures, below)))

pub returns-clause-inside : goal.returns-clause-inside
returns-clause-inside c =
    run-inside c.args.self.now c.args.rv c.args.k c.min.result c.run-position.result.0 _
    (omega (arith, c.min.ensures, c.run-position.ensures.some, c.requires.most)) c.cycle-cycle.ensures.sent refl
    (returns-clause-places c)
