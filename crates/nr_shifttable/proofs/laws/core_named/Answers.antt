use Rattle.nr_shifttable.proofs.ParityFaultFacts.{core-is_named}
use Rattle.nr_shifttable.proofs.laws.core_named.Goals as goal

pub returns : goal.returns
returns c = core-is_named
