-- Blocks of z bits that are rotated by a shift and added to others, or counted with others.
use Rattle.std.specs.Prelude.{◌≡◌, ℕ, ◌+◌, ◌%◌, ◌<◌, ◌≤◌, Bool, ◌&&◌, ◌||◌, List, length, IsTrue}
use Rattle.nr_bitvec.specs.Bit.{◌⊕◌, bit}
use Rattle.nr_lifting.specs.Sizes.{is_in, sizes}

-- z is one of the 51 lifting sizes
abbrev pub IsSize : ℕ → Type 0
IsSize z = IsTrue (is_in z sizes)

-- Bit t of the block of z bits that begins at bit `from`, rotated by p: its bit (t + p) mod z. This is row t of
-- the z × z identity matrix shifted to the right by p, times the block (TS 38.212, 5.3.2).
abbrev pub rotated_bit : ℕ → List Bool → ℕ → ℕ → ℕ → Bool
rotated_bit z bits from p t = bit bits (from + (t + p) % z)

-- The block of z bits from bit `at` on gains, modulo two, the block of `src` from bit `from` on, rotated by p. All
-- other bits are unchanged.
pub record GainsBlock (z : ℕ) (new old : List Bool) (at : ℕ) (src : List Bool) (from p : ℕ) : Type 0 where
  pub within : (t : ℕ) → t < z → bit new (at + t) ≡ bit old (at + t) ⊕ rotated_bit z src from p t
  pub before : (t : ℕ) → t < at → bit new t ≡ bit old t
  pub after : (t : ℕ) → at + z ≤ t → bit new t ≡ bit old t
  pub long : length new ≡ length old

-- Of the first z places, `ones` has those that were set at least once, and `more` those that were set at least twice.
-- Both gain one more block, that of `src` from bit `from` on, rotated by p. All other bits are unchanged.
pub record TalliesBlock (z : ℕ) (ones ones_old more more_old src : List Bool) (from p : ℕ) : Type 0 where
  pub ones_at : (t : ℕ) → t < z → bit ones t ≡ bit ones_old t || rotated_bit z src from p t
  pub more_at : (t : ℕ) → t < z → bit more t ≡ bit more_old t || bit ones_old t && rotated_bit z src from p t
  pub ones_after : (t : ℕ) → z ≤ t → bit ones t ≡ bit ones_old t
  pub more_after : (t : ℕ) → z ≤ t → bit more t ≡ bit more_old t
  pub ones_long : length ones ≡ length ones_old
  pub more_long : length more ≡ length more_old
