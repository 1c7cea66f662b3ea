use Rattle.nr_shifttable.proofs.ParityFaultFacts.{tables-are_accepted}
use Rattle.nr_shifttable.proofs.laws.tables_accepted.Goals as goal

pub returns : goal.returns
returns c = tables-are_accepted
