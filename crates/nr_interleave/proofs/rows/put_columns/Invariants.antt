-- the columns are in the rows so far, and the columns before them are unchanged in all rows
use Rattle.nr_interleave.proofs.Common.{◌≡◌, ℕ, ◌+◌, ◌*◌, ◌<◌, ◌==◌, length, slice_index_or, bit_at, bit}
use Rattle.nr_interleave.proofs.rows.put_columns.Given as goal

abbrev pub invariant-loop-row : goal.invariant-loop-row
invariant-loop-row g l = record {
  put : (r k : ℕ) → r < l.row → k < l.wide
      → bit l.selected.items (r * l.columns + (l.column + k)) ≡ (bit_at (slice_index_or l.rows r 0) k == 1);
  before : (r k : ℕ) → r < g.row.QM → k < l.column
      → bit l.selected.items (r * l.columns + k) ≡ bit l.initial.selected.items (r * l.columns + k);
  long : length l.selected.items ≡ length l.initial.selected.items;
  room : l.selected.room ≡ l.initial.selected.room;
}
