use Rattle.nr_bitvec.proofs.{Common.arith, PackedListFacts.window-place}
use Rattle.nr_bitvec.proofs.bits.Bits.window.Goals as goal

pub returns : goal.returns
returns c = grind (arith, window-place)
