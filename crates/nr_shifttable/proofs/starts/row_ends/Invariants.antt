use Rattle.nr_shifttable.proofs.Common.{◌≡◌, length, AreRowEnds}
use Rattle.nr_shifttable.proofs.starts.row_ends.Given as goal

-- the ends among the entries so far
abbrev pub invariant-loop-entry : goal.invariant-loop-entry
invariant-loop-entry l = record {
  ends : AreRowEnds 47 l.entries l.entry-index l.ends;
  room : length l.ends ≡ 47;
  counted : l.count ≡ l.entry-index;
}
