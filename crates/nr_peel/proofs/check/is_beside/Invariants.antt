use Rattle.nr_peel.proofs.{Common.bit, StoppingCheckFacts.IsBesideSo}
use Rattle.nr_peel.proofs.check.is_beside.Given as goal

abbrev pub invariant-loop-pos : goal.invariant-loop-pos
invariant-loop-pos l = IsBesideSo l.size (bit l.given.items) l.set l.pos-index l.least
