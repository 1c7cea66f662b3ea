use Rattle.nr_shifttable.proofs.WrittenItemFacts.{items-are_written}
use Rattle.nr_shifttable.proofs.laws.items_written.Goals as goal

pub returns : goal.returns
returns c = items-are_written
