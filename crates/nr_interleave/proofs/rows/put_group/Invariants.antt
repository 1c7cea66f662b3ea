-- 64 more columns are in the rows so far, and not yet in the others
use Rattle.nr_interleave.proofs.Common.{◌≡◌, ℕ, ◌+◌, ◌*◌, ◌<◌, ◌≤◌, ◌==◌, Bool, length}
use Rattle.nr_interleave.proofs.Common.{slice_index_or, bit_at, ArePut, IsPut}
use Rattle.nr_interleave.proofs.rows.put_group.Given as goal

abbrev pub invariant-loop-row : goal.invariant-loop-row
invariant-loop-row g l = record {
  put : (cell : ℕ → ℕ → Bool)
      → ((r k : ℕ) → r < g.row.QM → k < 64 → (bit_at (slice_index_or l.rows r 0) k == 1) ≡ cell r (l.column + k))
      → ArePut g.row.QM cell l.columns l.column l.initial.pending l.initial.selected.items
      → (r : ℕ) → r < l.row
      → IsPut (cell r) (r * l.columns) (r * l.columns + (l.column + 64)) (slice_index_or l.pending r 0) l.selected.items;
  rest : (cell : ℕ → ℕ → Bool) → ArePut g.row.QM cell l.columns l.column l.initial.pending l.initial.selected.items
      → (r : ℕ) → l.row ≤ r → r < g.row.QM
      → IsPut (cell r) (r * l.columns) (r * l.columns + l.column) (slice_index_or l.pending r 0) l.selected.items;
  words : length l.pending ≡ g.row.QM;
  long : length l.selected.items ≡ length l.initial.selected.items;
  room : l.selected.room ≡ l.initial.selected.room;
}
