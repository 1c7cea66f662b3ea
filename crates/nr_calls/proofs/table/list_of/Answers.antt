use Rattle.nr_calls.proofs.{Common.arith, PlacedEntryFacts.answered}
use Rattle.nr_calls.proofs.table.list_of.Goals as goal

pub returns-clause-same_table : goal.returns-clause-same_table
returns-clause-same_table c = grind (arith, answered)
