use Rattle.nr_lifting.proofs.{Names.min, Names.place, Names.◌-◌, LaneBitFacts.IsMade}
use Rattle.nr_lifting.proofs.lanes.lane_words.without.Given as goal

-- the words before word i are made
abbrev pub invariant-loop-i : goal.invariant-loop-i
invariant-loop-i g l = IsMade l.i (λ t. min (place l.lane t) (1 - place l.other t)) l.rest l.initial.rest
