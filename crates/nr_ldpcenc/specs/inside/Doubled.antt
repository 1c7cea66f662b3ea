-- Columns of z bits kept as doubled lanes in words of 64 places. Place t of a column is its bit t mod z, for t below 2 z. Column c
-- begins at word 12 c, since 2 z is at most 768. TS 38.212 has no rule for this; it is how this crate keeps a word while
-- it solves it.
use Rattle.std.specs.Prelude.{◌≡◌, ℕ, ◌+◌, ◌*◌, ◌/◌, ◌%◌, ◌<◌, Bool, List, length}
use Rattle.nr_bitvec.specs.Bit.{bit}
use Rattle.nr_lifting.specs.DoubledLanes.{is_set}
use Rattle.nr_ldpcenc.specs.inside.Words.{AgreeBelow, IsReady}

-- bit q of the word whose columns these are
abbrev pub col_bit : ℕ → List ℕ → ℕ → Bool
col_bit z cols q = is_set cols (768 * (q / z) + q % z)

-- column c is there twice
abbrev pub IsTwice : ℕ → ℕ → List ℕ → Type 0
IsTwice z c cols = (t : ℕ) → t < z → is_set cols (768 * c + z + t) ≡ is_set cols (768 * c + t)

-- each of the first n columns is there twice
abbrev pub AreTwice : ℕ → ℕ → List ℕ → Type 0
AreTwice z n cols = (c t : ℕ) → c < n → t < z → is_set cols (768 * c + z + t) ≡ is_set cols (768 * c + t)

-- the first n columns of a word are there twice each, and the word is ready for block m
pub record HasColumns (z n m : ℕ) (cols : List ℕ) (word : List Bool) : Type 0 where
  pub twice : AreTwice z n cols
  pub same : AgreeBelow (n * z) (bit word) (col_bit z cols)
  pub ready : IsReady z m word
  pub words : length cols ≡ 312
