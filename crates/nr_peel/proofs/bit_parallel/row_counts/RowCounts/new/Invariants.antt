use Rattle.nr_peel.proofs.Common.{◌≡◌, ℕ, ◌<◌, ◌≤◌, ◌==◌, length, slice_index, bit, due_in}
use Rattle.nr_peel.proofs.bit_parallel.row_counts.RowCounts.new.Given as goal

-- of the row blocks so far those are due whose degree is one, and no others
abbrev pub invariant-loop-i : goal.invariant-loop-i
invariant-loop-i g l = record {
  ones : (h : ℕ) → h < l.i → bit l.due h ≡ (slice_index l.degrees h == 1);
  count : due_in l.due ≤ l.i;
  long : length l.due ≡ 46;
}
