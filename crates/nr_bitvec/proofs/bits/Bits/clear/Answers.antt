use Rattle.nr_bitvec.proofs.{Common.arith, PlaceFacts.length-unpacked}
use Rattle.nr_bitvec.proofs.bits.Bits.clear.Goals as goal

pub returns-clause-room : goal.returns-clause-room
returns-clause-room c = grind (arith, length-unpacked)
