use Rattle.nr_drawing.proofs.Common.{append-nil, append_assoc, arith, first_words}
use Rattle.nr_drawing.proofs.push_draws.Goals as goal

pub loop-i-init : goal.loop-i-init
loop-i-init c = grind arith

pub loop-i-preserved : goal.loop-i-preserved
loop-i-preserved c = grind (arith, append_assoc)

pub returns : goal.returns
unfolding first_words
returns c = grind (arith, append-nil)
