use Rattle.nr_lifting.proofs.{Names.max, Names.min, Names.place, Names.◌%◌, Names.◌+◌, LaneWordFacts.IsWritten}
use Rattle.nr_lifting.proofs.lanes.lane.tally_words.Given as goal

-- the words before word i are counted
abbrev pub invariant-loop-i : goal.invariant-loop-i
invariant-loop-i l = record {
  ones_at : IsWritten l.size l.i (λ t. max (place l.initial.ones t) (place l.src ((t + l.p) % l.size))) l.ones l.initial.ones;
  more_at : IsWritten l.size l.i
      (λ t. max (place l.initial.more t) (min (place l.initial.ones t) (place l.src ((t + l.p) % l.size)))) l.more l.initial.more;
}
