-- Pairs of a row and a position of it, by which the peeler's visits are bounded.
use Rattle.std.specs.Prelude.{ℕ, zero, suc, ◌+◌, Bool, List, length, count_by, sum_by}
use Rattle.nr_ldpcenc.specs.Rows.{Checks}
use Rattle.nr_peel.specs.declared.fix.Fix.{Fix}

-- the sum of a function's values below n
abbrev pub sum_below : (ℕ → ℕ) → ℕ → ℕ
sum_below f zero = 0
sum_below f (suc n) = sum_below f n + f n

-- how many pairs there are of a row and a position of it that is in the set
unfoldable pub pairs_in : Checks → (ℕ → Bool) → ℕ
pairs_in c S = sum_below (λ i. sum_below (λ t. count_by S (c.row i t)) c.lanes) c.rows

-- how many pairs there are of a step and a position of its row
unfoldable pub step_pairs : Checks → List Fix → ℕ
step_pairs c steps = sum_by (λ s. length (c.row s.row s.lane)) steps
