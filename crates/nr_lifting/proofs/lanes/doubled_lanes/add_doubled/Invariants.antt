use Rattle.nr_lifting.proofs.{Names.place, Names.◌%◌, Names.◌+◌, LaneWordFacts.IsWritten}
use Rattle.nr_lifting.proofs.lanes.doubled_lanes.add_doubled.Given as goal

-- the words before word i have gained their places
abbrev pub invariant-loop-i : goal.invariant-loop-i
invariant-loop-i g l =
    IsWritten l.size l.i (λ t. (place l.initial.now t + place l.doubled ((t + l.p) % l.size)) % 2) l.now l.initial.now
