use Rattle.nr_calls.proofs.Common.{get_or-replicate_same}
use Rattle.nr_calls.proofs.batch.Batch.begin.Goals as goal

pub returns-clause-fresh : goal.returns-clause-fresh
returns-clause-fresh c = λ j. get_or-replicate_same 64 j 0
