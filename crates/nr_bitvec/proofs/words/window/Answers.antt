use Rattle.nr_bitvec.proofs.{Common.arith, BitFacts.window-last, BitFacts.window-both}
use Rattle.nr_bitvec.proofs.words.window.Goals as goal

pub returns-then-turn-eq0 : goal.returns-then-turn-eq0
returns-then-turn-eq0 c = grind (arith, window-last)

pub returns : goal.returns
returns c = grind (arith, window-both)
