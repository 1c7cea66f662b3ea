use Rattle.nr_lifting.proofs.{Names.min, Names.place, Names.◌%◌, Names.◌+◌, Names.◌-◌, LaneWordFacts.IsWritten}
use Rattle.nr_lifting.proofs.lanes.doubled_lanes.less_doubled.Given as goal

-- the words before word i are made
abbrev pub invariant-loop-i : goal.invariant-loop-i
invariant-loop-i g l =
    IsWritten l.size l.i (λ t. min (place l.lane t) (1 - place l.doubled ((t + l.p) % l.size))) l.rest l.initial.rest
