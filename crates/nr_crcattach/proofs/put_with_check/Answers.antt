use Rattle.nr_crcattach.proofs.Common.{length-append, length-drop, length-take, arith, length-low_first}
use Rattle.nr_crcattach.proofs.{FlipFacts.low_first-flip, RemainderFacts.length-with_check}
use Rattle.nr_crcattach.proofs.put_with_check.Goals as goal

pub push_word-requires-clause-room : goal.push_word-requires-clause-room
push_word-requires-clause-room c = grind (arith, length-drop, length-take, length-with_check)

pub returns-clause-items : goal.returns-clause-items
returns-clause-items c = grind (arith, low_first-flip)

pub returns-clause-room : goal.returns-clause-room
returns-clause-room c = grind (arith, length-append, length-low_first, length-drop, length-take)
