use Rattle.nr_shifttable.proofs.Common.{◌≡◌, ℕ, ◌<◌, ◌≤◌, length, slice_index, AreRowStarts, IsRowEnd}
use Rattle.nr_shifttable.proofs.starts.row_starts.Given as goal

-- the starts of the rows so far, and the ends of the others
abbrev pub invariant-loop-row : goal.invariant-loop-row
invariant-loop-row l = record {
  starts : AreRowStarts l.row l.entries l.starts;
  ends : (i : ℕ) → l.row ≤ i → i < 47 → IsRowEnd l.entries (length l.entries) i (slice_index l.starts i);
  room : length l.starts ≡ 47;
}
