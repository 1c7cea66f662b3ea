use Rattle.nr_bitvec.proofs.{Common.arith, PlaceFacts.length-unpacked, JoinedWordFacts.zeros-items}
use Rattle.nr_bitvec.proofs.bits.Bits.zero.Goals as goal

pub returns-clause-items : goal.returns-clause-items
returns-clause-items c = grind (arith, length-unpacked, zeros-items)
