-- The rows and columns of a base graph's entries, and the shape that an accepted table has (TS 38.212, 5.3.2). From the
-- parity columns on, its rows are literal lists of columns and values, of the form of Tables 5.3.2-2 and 5.3.2-3.
use Rattle.std.specs.Prelude.{◌≡◌, ℕ, ◌+◌, ◌<◌, ◌≤◌, ◌==◌, ◌⊎◌, nat_le, List, [], ◌∷◌}
use Rattle.std.specs.Prelude.{map, filter, find, Option, option_map, slice_index}
use Rattle.nr_shifttable.specs.declared.entry.Entry.{Entry}

-- the entries of a row
abbrev pub row_of : List Entry → ℕ → List Entry
row_of es i = filter (λ e. e.row == i) es

-- the entries of a column
abbrev pub column_of : List Entry → ℕ → List Entry
column_of es j = filter (λ e. e.col == j) es

-- the entries of a row from column `from` on
abbrev pub tail : List Entry → ℕ → ℕ → List Entry
tail es i from = filter (λ e. nat_le from e.col) (row_of es i)

-- the shift values at a row and a column, one for each lifting-size set
abbrev pub values_at : List Entry → ℕ → ℕ → Option (List ℕ)
values_at es i j = option_map (λ e. e.values) (find (λ e. e.col == j) (row_of es i))

-- an entry's shift value in a set
abbrev pub value_in : ℕ → Entry → ℕ
value_in set e = slice_index e.values set

-- the cells of row i from column `from` on: the columns, each with its value in a set
abbrev pub tail_of : List Entry → ℕ → ℕ → ℕ → List (ℕ × ℕ)
tail_of es set from i = map (λ e. (e.col, value_in set e)) (tail es i from)

-- rows 1 and 2, one of which has the first parity column, n, with value b
abbrev pub HasMiddle : List Entry → ℕ → ℕ → ℕ → Type 0
HasMiddle es set n b =
    ((tail_of es set n 1 ≡ (n, b) ∷ (n + 1, 0) ∷ (n + 2, 0) ∷ [])
    × (tail_of es set n 2 ≡ (n + 2, 0) ∷ (n + 3, 0) ∷ []))
    ⊎ ((tail_of es set n 1 ≡ (n + 1, 0) ∷ (n + 2, 0) ∷ [])
    × (tail_of es set n 2 ≡ (n, b) ∷ (n + 2, 0) ∷ (n + 3, 0) ∷ []))

-- Rows 0 to 3: the first parity column three times, and the double diagonal of zeros. The three values are a, b and c,
-- two of which agree.
pub record HasCore (es : List Entry) (set n a b c : ℕ) : Type 0 where
  pub first : tail_of es set n 0 ≡ (n, a) ∷ (n + 1, 0) ∷ []
  pub middle : HasMiddle es set n b
  pub last : tail_of es set n 3 ≡ (n, c) ∷ (n + 3, 0) ∷ []
  pub two_agree : (a ≡ b) ⊎ ((b ≡ c) ⊎ (a ≡ c))

-- each row i from 4 on has, past the core's columns, only its own column
abbrev pub HasExtension : List Entry → ℕ → ℕ → ℕ → Type 0
HasExtension es set n rows = (i : ℕ) → 4 ≤ i → i < rows → tail_of es set (n + 4) i ≡ (n + i, 0) ∷ []

-- the parity part of a base graph with information columns below n, in one set
pub record HasShape (es : List Entry) (set n rows : ℕ) : Type 0 where
  pub first : ℕ
  pub middle : ℕ
  pub last : ℕ
  pub core : HasCore es set n first middle last
  pub extension : HasExtension es set n rows
