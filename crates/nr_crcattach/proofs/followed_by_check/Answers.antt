use Rattle.nr_crcattach.proofs.{Common.arith, Common.length-drop, Common.length-take, RemainderFacts.length-with_check}
use Rattle.nr_crcattach.proofs.followed_by_check.Goals as goal

pub put_with_check-requires-clause-room : goal.put_with_check-requires-clause-room
put_with_check-requires-clause-room c = grind (arith, length-drop, length-take, length-with_check)
