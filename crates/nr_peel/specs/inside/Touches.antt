-- Definitions that only the proofs need, beside those of Touches.antt.
use Rattle.std.specs.Prelude.{ℕ, ◌*◌, ◌/◌, ◌%◌, ◌==◌, if◌then◌else◌, List, length, slice_index}
use Rattle.nr_ldpcenc.specs.Rows.{Checks}
use Rattle.nr_peel.specs.Touches.{sum_below}

-- how many positions row number k has; the rows are numbered through, block of rows by block of rows
abbrev pub row_length : Checks → ℕ → ℕ
row_length c k = length (c.row (k / c.lanes) (k % c.lanes))

-- how many pairs there are of a row and a position of it
unfoldable pub all_pairs : Checks → ℕ
all_pairs c = sum_below (row_length c) (c.rows * c.lanes)

-- how many pairs there are of a row that has no unknown position and a position of it
unfoldable pub spent_pairs : Checks → List ℕ → ℕ
spent_pairs c counts = sum_below (λ k. if slice_index counts k == 0 then row_length c k else 0) (c.rows * c.lanes)
