-- the columns are in the rows so far, and in the others as far as they fill words
use Rattle.nr_interleave.proofs.Common.{◌≡◌, ℕ, ◌+◌, ◌*◌, ◌<◌, ◌≤◌, Bool, length, slice_index_or, bit}
use Rattle.nr_interleave.proofs.Common.{ArePut, IsPut}
use Rattle.nr_interleave.proofs.rows.put_pending.Given as goal

abbrev pub invariant-loop-row : goal.invariant-loop-row
invariant-loop-row g l = record {
  put : (cell : ℕ → ℕ → Bool) → ArePut g.row.QM cell l.columns l.column l.pending l.initial.selected.items
      → (r k : ℕ) → r < l.row → k < l.column → bit l.selected.items (r * l.columns + k) ≡ cell r k;
  rest : (cell : ℕ → ℕ → Bool) → ArePut g.row.QM cell l.columns l.column l.pending l.initial.selected.items
      → (r : ℕ) → l.row ≤ r → r < g.row.QM
      → IsPut (cell r) (r * l.columns) (r * l.columns + l.column) (slice_index_or l.pending r 0) l.selected.items;
  long : length l.selected.items ≡ length l.initial.selected.items;
  room : l.selected.room ≡ l.initial.selected.room;
}
