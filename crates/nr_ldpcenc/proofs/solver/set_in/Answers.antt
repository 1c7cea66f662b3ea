use Rattle.nr_ldpcenc.proofs.CodewordFacts.{set_below}
use Rattle.nr_ldpcenc.proofs.solver.set_in.Goals as goal

pub returns-clause-below : goal.returns-clause-below
returns-clause-below c = set_below c.args.plan.now.z c.args.plan.now.set c.args.plan.now.sound.set_is
