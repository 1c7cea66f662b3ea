use Rattle.nr_shifttable.proofs.RecordOrderFacts.{moved-table}
use Rattle.nr_shifttable.proofs.laws.record_order.Goals as goal

pub returns : goal.returns
returns c = moved-table
