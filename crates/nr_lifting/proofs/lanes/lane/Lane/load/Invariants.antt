use Rattle.nr_lifting.proofs.{Names.bit, Names.length, Names.◌+◌, Names.◌≡◌, LaneWordFacts.IsWritten, LaneMoveFacts.digit}
use Rattle.nr_lifting.proofs.lanes.lane.Lane.load.Given as goal

-- the words before word i are read
abbrev pub invariant-loop-i : goal.invariant-loop-i
invariant-loop-i g l = record {
  read : IsWritten g.row.Z l.i (λ t. digit (bit l.src.items (l.from + t))) l.words l.initial.words;
  long : length l.words ≡ g.row.W;
}
