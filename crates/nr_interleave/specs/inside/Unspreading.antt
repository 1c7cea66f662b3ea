-- The rows of a matrix whose columns follow one another in a list.
use Rattle.std.specs.Prelude.{◌≡◌, ℕ, ◌+◌, ◌-◌, ◌*◌, ◌/◌, ◌%◌, ◌<◌, ◌≤◌, ◌==◌, Bool, List}
use Rattle.std.specs.{Prelude.map, Prelude.slice_index_or, Int.bit_at, List.range_with_len}
use Rattle.nr_bitvec.specs.Bit.{bit}

-- Words of eight columns each, from a bit of a list on. Octet r of a word has the bits of its columns in row r.
abbrev pub HasOctets : ℕ → List ℕ → List Bool → ℕ → Type 0
HasOctets qm words bits from = (e r c : ℕ) → e < 8 → r < qm → c < 8
    → (bit_at (slice_index_or words e 0) (8 * r + c) == 1) ≡ bit bits (from + (qm * (8 * e + c) + r))

-- A row of a matrix as far as it is put into a list: its cells from bit `start` on, up to bit `at`. The full words of
-- 64 bits are in the list, and a pending word has the other bits.
pub record IsPut (cell : ℕ → Bool) (start at pending : ℕ) (items : List Bool) : Type 0 where
  pub put : (p : ℕ) → start ≤ p → p < 64 * (at / 64) → bit items p ≡ cell (p - start)
  pub waits : (j : ℕ) → start ≤ 64 * (at / 64) + j → j < at % 64
      → (bit_at pending j == 1) ≡ cell (64 * (at / 64) + j - start)
  pub none : (j : ℕ) → at % 64 ≤ j → bit_at pending j ≡ 0

-- the rows of a matrix, all put into the list up to a column
abbrev pub ArePut : ℕ → (ℕ → ℕ → Bool) → ℕ → ℕ → List ℕ → List Bool → Type 0
ArePut qm cell columns column pending items =
    (r : ℕ) → r < qm → IsPut (cell r) (r * columns) (r * columns + column) (slice_index_or pending r 0) items

-- A word at bit `at` follows the pending bits. Both are put as far as they fill a word of the list, and the other bits
-- wait.
pub record Follows (old new : List Bool) (at pending word waiting : ℕ) : Type 0 where
  pub first : (t : ℕ) → t < at % 64 → bit new (64 * (at / 64) + t) ≡ (bit_at pending t == 1)
  pub then : ((j : ℕ) → at % 64 ≤ j → bit_at pending j ≡ 0) → (t : ℕ) → at % 64 + t < 64
      → bit new (at + t) ≡ (bit_at word t == 1)
  pub before : (t : ℕ) → t < 64 * (at / 64) → bit new t ≡ bit old t
  pub after : (t : ℕ) → 64 * (at / 64) + 64 ≤ t → bit new t ≡ bit old t
  pub waits : (j : ℕ) → j < at % 64 → bit_at waiting j ≡ bit_at word (64 - at % 64 + j)
  pub none : (j : ℕ) → at % 64 ≤ j → bit_at waiting j ≡ 0

-- the bits of a list from bit `from` on, which are column by column in a matrix of qm rows, row by row
unfoldable pub row_by_row : ℕ → List Bool → ℕ → ℕ → List Bool
row_by_row qm bits from count =
    map (λ k. bit bits (from + (qm * (k % (count / qm)) + k / (count / qm)))) (range_with_len 0 count)
