use Rattle.nr_bitvec.proofs.{Common.arith, Common.get_or_read, PlaceFacts.length-unpacked, PackedListFacts.get-place}
use Rattle.nr_bitvec.proofs.bits.Bits.get.Goals as goal

-- the bit has a word
pub index-requires : goal.index-requires
index-requires c = grind (arith, length-unpacked)

pub returns : goal.returns
returns c = grind (arith, length-unpacked, get_or_read, get-place)
