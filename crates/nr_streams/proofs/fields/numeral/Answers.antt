use Rattle.nr_streams.proofs.{Common.arith, FieldFacts.numeral-below}
use Rattle.nr_streams.proofs.fields.numeral.Goals as goal

pub returns-then-all_digits-clause-below : goal.returns-then-all_digits-clause-below
returns-then-all_digits-clause-below c = grind (arith, numeral-below)
