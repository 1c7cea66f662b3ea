use Rattle.nr_lifting.proofs.{Names.place, Names.◌%◌, Names.◌+◌, LaneBitFacts.IsMade}
use Rattle.nr_lifting.proofs.lanes.lane_words.add_lane.Given as goal

-- the words before word i are made
abbrev pub invariant-loop-i : goal.invariant-loop-i
invariant-loop-i g l = IsMade l.i (λ t. (place l.initial.sum t + place l.lane t) % 2) l.sum l.initial.sum
