-- The entries so far have been added, from the one column on and before the other.
use Rattle.nr_ldpcenc.proofs.Common.{◌≡◌, ℕ, ◌<◌, ◌==◌, take, ◌⊕◌, place, col_bit, sum_between}
use Rattle.nr_ldpcenc.proofs.doubled_columns.add_rest.Given as goal

abbrev pub invariant-loop-entry : goal.invariant-loop-entry
invariant-loop-entry g l = (t : ℕ) → t < g.row.Z
    → (place l.sum t == 1) ≡ (place l.initial.sum t == 1)
    ⊕ sum_between l.set g.row.Z (col_bit g.row.Z l.cols) l.from l.before t (take l.entry-index l.row)
