use Rattle.nr_interleave.proofs.Common.{◌≡◌, ℕ, ◌+◌, ◌*◌, ◌<◌, ◌==◌, length, slice_index_or, bit_at, bit}
use Rattle.nr_interleave.proofs.rows.column_octets.Given as goal

-- the words so far are read
abbrev pub invariant-loop-word : goal.invariant-loop-word
invariant-loop-word g l = record {
  read : (w : ℕ) → w < l.word → (j : ℕ) → j < 64
      → (bit_at (slice_index_or l.read w 0) j == 1) ≡ bit l.bits.items (l.from + 64 * w + j);
  long : length l.read ≡ 8;
}

-- and the columns in them are made octets
abbrev pub invariant-loop-eight : goal.invariant-loop-eight
invariant-loop-eight g l = record {
  turned : (e : ℕ) → e < l.eight → (r c : ℕ) → r < g.row.QM → c < 8
      → (bit_at (slice_index_or l.octets e 0) (8 * r + c) == 1) ≡ bit l.bits.items (l.from + (g.row.QM * (8 * e + c) + r));
  long : length l.octets ≡ 8;
}
