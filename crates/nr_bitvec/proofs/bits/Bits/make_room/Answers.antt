use Rattle.nr_bitvec.proofs.{Common.arith, PlaceFacts.length-unpacked}
use Rattle.std.proofs.lemmas.Result.{on_ok_weaker}
use Rattle.nr_bitvec.proofs.bits.Bits.make_room.Goals as goal

pub returns-clause-room : goal.returns-clause-room
returns-clause-room c = grind (arith, on_ok_weaker, length-unpacked)
