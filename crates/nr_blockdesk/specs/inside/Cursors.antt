-- The cursors that give the positions of a part's places in turn.
use Rattle.std.specs.Prelude.{◌≡◌, ℕ, ◌+◌, ◌*◌, ◌^◌, ◌<◌, ◌≤◌, nat_lt, if◌then◌else◌}
use Rattle.std.specs.Prelude.{slice_index_or}
use Rattle.nr_graphpick.specs.Graph.{cols_of}
use Rattle.nr_ratematch.specs.Selection.{Circular, place_of}
use Rattle.nr_blockdesk.specs.declared.place_cursors.{PlaceCursors.PlaceCursors, RowCursor.RowCursor}

-- a row goes on with selected bit k
pub record IsCursor (b : Circular) (rv k : ℕ) (c : RowCursor) : Type 0 where
  pub run : (j : ℕ) → j < c.left → place_of b rv (k + j) ≡ c.position + j
  pub inside : c.position + c.left ≤ cols_of b.graph * b.z

-- how many places there are
abbrev pub place_count : ℕ → PlaceCursors → ℕ
place_count qm c = qm * c.columns

-- how many of them the cursors have given
abbrev pub given_count : ℕ → PlaceCursors → ℕ
given_count qm c = qm * c.column + c.row

-- the column that a row goes on with: one further in the rows above the next place
abbrev pub next_column : PlaceCursors → ℕ → ℕ
next_column c i = if nat_lt i c.row then c.column + 1 else c.column

-- each row goes on with its bit in that column
pub record AreCursors (b : Circular) (rv qm : ℕ) (c : PlaceCursors) : Type 0 where
  pub few : qm ≤ 8
  pub row : c.row < qm
  pub short : qm * c.columns < 2 ^ 32
  pub codeword : cols_of b.graph * b.z < 2 ^ 32
  pub rows : (i : ℕ) (d : RowCursor) → i < qm → IsCursor b rv (i * c.columns + next_column c i) (slice_index_or c.rows i d)
