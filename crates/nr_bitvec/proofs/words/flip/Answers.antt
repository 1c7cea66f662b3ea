use Rattle.nr_bitvec.proofs.{Common.arith, Common.length-set, Common.get_or_read, AddedBitFacts.flip-one, AddedBitFacts.flip-both}
use Rattle.nr_bitvec.proofs.words.flip.Goals as goal

pub returns-then-word-len-2-clause-places : goal.returns-then-word-len-2-clause-places
returns-then-word-len-2-clause-places c = grind (arith, get_or_read, flip-both, length-set)

pub returns-else-turn-ne0-clause-places : goal.returns-else-turn-ne0-clause-places
returns-else-turn-ne0-clause-places c = grind (arith, get_or_read, flip-one)
