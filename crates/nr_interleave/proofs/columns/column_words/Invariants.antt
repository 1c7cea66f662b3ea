use Rattle.nr_interleave.proofs.Common.{◌≡◌, ℕ, ◌+◌, ◌*◌, ◌<◌, ◌==◌, length, slice_index_or, bit_at, bit}
use Rattle.nr_interleave.proofs.columns.column_words.Given as goal

-- the words so far have the columns
abbrev pub invariant-loop-eight : goal.invariant-loop-eight
invariant-loop-eight g l = record {
  made : (e : ℕ) → e < l.eight → (s r : ℕ) → s < 8 → r < g.row.QM
      → (bit_at (slice_index_or l.words e 0) (s * g.row.QM + r) == 1)
      ≡ bit l.bits.items (r * l.columns + l.column + (8 * e + s));
  long : length l.words ≡ 8;
}
