use Rattle.nr_calls.proofs.Common.{length, ap, arith}
use Rattle.nr_bitvec.proofs.OctetListFacts.{length-bits_of}
use Rattle.nr_calls.proofs.packed.first_bits.Goals as goal

pub copy_range-requires : goal.copy_range-requires
copy_range-requires c =
    omega (arith, ap length c.in_ok-bits.ensures, length-bits_of c.args.octets.now, c.requires.long)
