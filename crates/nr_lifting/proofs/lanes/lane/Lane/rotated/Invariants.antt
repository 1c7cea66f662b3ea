use Rattle.nr_lifting.proofs.{Names.length, Names.place, Names.◌%◌, Names.◌+◌, Names.◌≡◌, LaneWordFacts.IsWritten}
use Rattle.nr_lifting.proofs.lanes.lane.Lane.rotated.Given as goal

-- the words before word i are rotated
abbrev pub invariant-loop-i : goal.invariant-loop-i
invariant-loop-i g l = record {
  turned : IsWritten g.row.Z l.i (λ t. place l.self-inside.words ((t + l.p) % g.row.Z)) l.rotated l.initial.rotated;
  long : length l.rotated ≡ g.row.W;
}
