use Rattle.nr_interleave.proofs.Common.{◌≡◌, ℕ, ◌+◌, ◌*◌, ◌<◌, ◌==◌, length, slice_index_or, bit_at, bit}
use Rattle.nr_interleave.proofs.columns.read_rows.Given as goal

-- the rows so far are read
abbrev pub invariant-loop-row : goal.invariant-loop-row
invariant-loop-row g l = record {
  read : (r : ℕ) → r < l.row → (j : ℕ) → j < 64
      → (bit_at (slice_index_or l.rows r 0) j == 1) ≡ bit l.bits.items (r * l.columns + l.column + j);
  long : length l.rows ≡ 8;
}
