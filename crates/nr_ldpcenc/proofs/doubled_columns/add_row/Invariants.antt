-- The entries so far have been added, before the column.
use Rattle.nr_ldpcenc.proofs.Common.{◌≡◌, ℕ, ◌<◌, ◌==◌, take, ◌⊕◌, place, col_bit, sum_before}
use Rattle.nr_ldpcenc.proofs.doubled_columns.add_row.Given as goal

abbrev pub invariant-loop-entry : goal.invariant-loop-entry
invariant-loop-entry g l = (t : ℕ) → t < g.row.Z
    → (place l.total t == 1) ≡ (place l.initial.total t == 1)
    ⊕ sum_before l.set g.row.Z (col_bit g.row.Z l.cols) l.before t (take l.entry-index l.row)
