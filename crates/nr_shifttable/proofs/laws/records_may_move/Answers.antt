use Rattle.nr_shifttable.proofs.RecordOrderFacts.{records-may_move}
use Rattle.nr_shifttable.proofs.laws.records_may_move.Goals as goal

pub returns : goal.returns
returns c = records-may_move
