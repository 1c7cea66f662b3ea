use Rattle.nr_shifttable.proofs.ParityFaultFacts.{missing_row-is_named}
use Rattle.nr_shifttable.proofs.laws.missing_row_named.Goals as goal

pub returns : goal.returns
returns c = missing_row-is_named
