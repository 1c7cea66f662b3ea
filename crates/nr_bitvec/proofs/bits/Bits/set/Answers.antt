use Rattle.nr_bitvec.proofs.{Common.arith, PackedListFacts.set-items}
use Rattle.nr_bitvec.proofs.bits.Bits.set.Goals as goal

pub returns-clause-items : goal.returns-clause-items
returns-clause-items c = grind (arith, set-items)
