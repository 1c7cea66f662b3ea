-- Marks with one more, and where the rows and columns of a table are.
use Rattle.nr_peel.proofs.Common.{◌≡◌, ℕ, ◌+◌, ◌*◌, ◌<◌, ◌≤◌, ◌==◌, Bool, true, List, length, set}
use Rattle.nr_peel.proofs.Common.{arith, All, cases_eq, get_or-set_other, get_or-set_same, All-filter, All-weaker, mul-le-mul_right}
use Rattle.nr_peel.proofs.Common.{bit, Graph, cols_of, Numbers, Entries, IsTable, entries_in, row_of, with_position, nat_tests}
use Rattle.nr_peel.proofs.TableGridFacts.{table_grid}

-- marks with one more
pub bit-mark : (xs : List Bool) (p : ℕ) → p < length xs → (q : ℕ) → bit (set xs p true) q ≡ with_position (bit xs) p q
bit-mark xs p lt q = grind (arith, nat_tests, cases_eq, get_or-set_same, get_or-set_other)

module _ (t : Entries) (g : Graph) (n : Numbers) (table : IsTable t) (pos : 0 < n.z) where
  pub row_columns : (i : ℕ) → All (λ e. (e.col + 1) * n.z ≤ cols_of g * n.z) (row_of (entries_in g t) i)
  row_columns i = All-filter (λ e. e.row == i) (λ e. (e.col + 1) * n.z ≤ cols_of g * n.z) (entries_in g t)
      (All-weaker (λ e. e.col < cols_of g) (λ e. (e.col + 1) * n.z ≤ cols_of g * n.z)
      (λ e h. mul-le-mul_right {m = e.col + 1} {n = cols_of g} n.z (omega arith)) (entries_in g t) (table_grid t g table).in_cols)
