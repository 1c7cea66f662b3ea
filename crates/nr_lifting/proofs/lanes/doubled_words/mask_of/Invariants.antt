use Rattle.nr_lifting.proofs.LaneWordFacts.{IsWritten}
use Rattle.nr_lifting.proofs.lanes.doubled_words.mask_of.Given as goal

-- the words before word i are made
abbrev pub invariant-loop-i : goal.invariant-loop-i
invariant-loop-i g l = IsWritten l.size l.i (λ t. 1) l.mask l.initial.mask
