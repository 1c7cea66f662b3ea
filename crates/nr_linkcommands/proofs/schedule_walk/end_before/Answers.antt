use Rattle.nr_linkcommands.proofs.Common.{arith}
use Rattle.nr_linkcommands.proofs.schedule_walk.end_before.Goals as goal

pub returns-clause-text : goal.returns-clause-text
returns-clause-text g c = grind arith
