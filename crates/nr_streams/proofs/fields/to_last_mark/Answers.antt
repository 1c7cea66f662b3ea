-- A blank at the end is left out, and another octet is kept.
use Rattle.nr_streams.proofs.{Common.arith, FieldFacts.last-blank, FieldFacts.last-mark}
use Rattle.nr_streams.proofs.fields.to_last_mark.Goals as goal

pub loop-last-preserved : goal.loop-last-preserved
loop-last-preserved c = grind (arith, last-blank)

pub returns-in_default : goal.returns-in_default
returns-in_default c = grind (arith, last-mark)
