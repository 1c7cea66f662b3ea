use Rattle.nr_interleave.proofs.Common.{◌≡◌, ℕ, ◌+◌, ◌*◌, ◌/◌, ◌%◌, ◌≤◌, ◌++◌, Bool, List, length}
use Rattle.nr_interleave.proofs.Common.{take, drop, interleaving_of, HasColumnBits}
use Rattle.nr_interleave.proofs.columns.push_columns.Given as goal

-- the columns of the words so far are in the list, which has room for the others
abbrev pub invariant-loop-eight : goal.invariant-loop-eight
invariant-loop-eight g l = record {
  spread : (xs : List Bool) (column : ℕ) → length xs % g.row.QM ≡ 0 → column + l.count ≤ length xs / g.row.QM
      → HasColumnBits g.row.QM l.words xs (length xs / g.row.QM) column
      → l.spread.items ≡ l.initial.spread.items
      ++ take (g.row.QM * (8 * l.eight)) (drop (g.row.QM * column) (interleaving_of g.row.QM xs));
  room : l.spread.room + g.row.QM * (8 * l.eight) ≡ l.initial.spread.room;
}
