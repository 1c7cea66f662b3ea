-- Words of a matrix's rows, and words of its columns.
use Rattle.std.specs.Prelude.{◌≡◌, ℕ, ◌+◌, ◌*◌, ◌<◌, ◌==◌, Bool, List, slice_index_or}
use Rattle.std.specs.Int.{bit_at}
use Rattle.nr_bitvec.specs.Bit.{bit}

-- Words of a matrix's rows, from a column on. The columns of row r begin at bit r `columns` of a list.
abbrev pub HasRows : ℕ → List ℕ → List Bool → ℕ → ℕ → Type 0
HasRows qm rows bits columns column = (r j : ℕ) → r < qm → j < 64
    → (bit_at (slice_index_or rows r 0) j == 1) ≡ bit bits (r * columns + column + j)

-- words of its columns, from a column on: eight columns in a word, each of qm places
abbrev pub HasColumnBits : ℕ → List ℕ → List Bool → ℕ → ℕ → Type 0
HasColumnBits qm words bits columns column = (e s r : ℕ) → e < 8 → s < 8 → r < qm
    → (bit_at (slice_index_or words e 0) (s * qm + r) == 1) ≡ bit bits (r * columns + column + (8 * e + s))
