use Rattle.nr_calls.proofs.Common.{length, ap, arith}
use Rattle.nr_bitvec.proofs.OctetListFacts.{length-octets_of}
use Rattle.nr_calls.proofs.packed.send_packed.Goals as goal

pub returns-clause-room : goal.returns-clause-room
returns-clause-room c =
    omega (
      arith,
      ap length c.in_ok-octets.ensures,
      length-octets_of c.in_ok-bits.bits.items,
      c.div_ceil.ensures,
      c.len.ensures.value,
      c.if-div_ceil-room.false,
    )
