use Rattle.nr_lifting.proofs.{Names.bits_of_words, Names.◌≡◌, LaneMoveFacts.IsStored}
use Rattle.nr_lifting.proofs.lanes.lane.Lane.store.Given as goal

-- the words before word i are put
abbrev pub invariant-loop-i : goal.invariant-loop-i
invariant-loop-i g l = record {
  stored : IsStored g.row.Z l.i l.at (bits_of_words g.row.Z l.self-inside.words) l.dst.items l.initial.dst.items;
  room : l.dst.room ≡ l.initial.dst.room;
}
