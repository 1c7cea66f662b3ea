use Rattle.nr_bitvec.proofs.{Common.arith, PlaceFacts.length-unpacked}
use Rattle.nr_bitvec.proofs.bits.Bits.len.Goals as goal

pub returns-clause-value : goal.returns-clause-value
returns-clause-value c = grind (arith, length-unpacked)
