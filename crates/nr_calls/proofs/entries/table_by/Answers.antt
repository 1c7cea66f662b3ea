use Rattle.nr_calls.proofs.Common.{arith, Ok}
use Rattle.nr_calls.proofs.PlacedEntryFacts.{answered, misplaced, refused}
use Rattle.nr_calls.proofs.entries.table_by.Goals as goal

pub returns-in-Ok-clause-said : goal.returns-in-Ok-clause-said
returns-in-Ok-clause-said c = answered c.args.entries.now (Ok c.in-Ok.table) c.in-Ok.ensures.said

pub returns-in-Err-clause-said : goal.returns-in-Err-clause-said
returns-in-Err-clause-said c = refused c.args.entries.now c.in-Err.fault c.fault_of.result c.in-Err.ensures.said c.fault_of.ensures

pub returns-in-Err-clause-placed : goal.returns-in-Err-clause-placed
returns-in-Err-clause-placed c = grind (arith, misplaced)
