use Rattle.nr_lifting.proofs.{Names.place, Names.◌%◌, Names.◌+◌, LaneWordFacts.IsWritten}
use Rattle.nr_lifting.proofs.lanes.doubled_lanes.read_doubled.Given as goal

-- the words before word i are read
abbrev pub invariant-loop-i : goal.invariant-loop-i
invariant-loop-i g l = IsWritten l.size l.i (λ t. place l.doubled ((t + l.p) % l.size)) l.lane l.initial.lane
