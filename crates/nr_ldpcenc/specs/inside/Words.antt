-- Definitions that only the proofs need.
use Rattle.std.specs.Prelude.{◌≡◌, ℕ, ◌*◌, ◌%◌, ◌<◌, ◌≤◌, Bool, false, List, length}
use Rattle.nr_bitvec.specs.Bit.{◌⊕◌, bit}
use Rattle.nr_shifttable.specs.{declared.entry.Entry.Entry, Tails.row_of}
use Rattle.nr_ldpcenc.specs.{inside.Solving.sum_before, Rows.positions}

-- the positions of the ones in row t of row of blocks i
abbrev pub row_at : List Entry → ℕ → ℕ → ℕ → ℕ → List ℕ
row_at es set z i t = positions set z t (row_of es i)

-- two words are the same below a position
abbrev pub AgreeBelow : ℕ → (ℕ → Bool) → (ℕ → Bool) → Type 0
AgreeBelow n v w = (p : ℕ) → p < n → v p ≡ w p

-- if blocks of z bits do not fill words of 64, a word has zeros from block n on
abbrev pub IsReady : ℕ → ℕ → List Bool → Type 0
IsReady z n word = 0 < z % 64 → (t : ℕ) → n * z ≤ t → bit word t ≡ false

-- the sum of a word over row t of a row of blocks, from one column on and before another, which is not smaller
abbrev pub sum_between : ℕ → ℕ → (ℕ → Bool) → ℕ → ℕ → ℕ → List Entry → Bool
sum_between set z w from j t row = sum_before set z w from t row ⊕ sum_before set z w j t row

-- the bits from bit `from` on and below n are zeros, and no bit before them has changed
pub record IsClearedTo (n from : ℕ) (new old : List Bool) : Type 0 where
  pub zeros : (t : ℕ) → from ≤ t → t < n → bit new t ≡ false
  pub before : AgreeBelow from (bit old) (bit new)
  pub long : length new ≡ length old

-- the first m bits of a list are those of another, and its bits from n on are unchanged
pub record Copies (m n : ℕ) (src old new : List Bool) : Type 0 where
  pub begins : (t : ℕ) → t < m → bit new t ≡ bit src t
  pub after : (t : ℕ) → n ≤ t → bit new t ≡ bit old t
  pub long : length new ≡ length old
