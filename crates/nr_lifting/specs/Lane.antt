-- Lanes, which are z bits in w words of 64 places.
use Rattle.std.specs.Prelude.{◌≡◌, ℕ, ◌+◌, ◌*◌, ◌%◌, ◌<◌, ◌≤◌, Bool, ◌&&◌, ◌||◌, List, length}
use Rattle.nr_bitvec.specs.Bit.{◌⊕◌, bit}
use Rattle.nr_bitvec.specs.Packed.{place}
use Rattle.nr_lifting.specs.DoubledLanes.{is_set}

-- ---- lanes of z bits, of which `src` is rotated by p: its bit (t + p) mod z comes to place t

-- each bit gains, modulo two, the one that comes to it
abbrev pub AddsRotated : ℕ → List Bool → List Bool → List Bool → ℕ → Type 0
AddsRotated z new old src p = (t : ℕ) → t < z → bit new t ≡ bit old t ⊕ bit src ((t + p) % z)

-- each bit is set if it was or if the one that comes to it is
abbrev pub JoinsRotated : ℕ → List Bool → List Bool → List Bool → ℕ → Type 0
JoinsRotated z new old src p = (t : ℕ) → t < z → bit new t ≡ bit old t || bit src ((t + p) % z)

-- each bit is set if it was, or if both that of `ones` and the one that comes to it are
abbrev pub MeetsRotated : ℕ → List Bool → List Bool → List Bool → List Bool → ℕ → Type 0
MeetsRotated z new old ones src p =
    (t : ℕ) → t < z → bit new t ≡ bit old t || bit ones t && bit src ((t + p) % z)

-- ---- lanes that are put into other words

-- from word `at` on, the z bits of a lane are there twice in a row
abbrev pub IsDoubled : ℕ → ℕ → List ℕ → List Bool → Type 0
IsDoubled z at words lane = (t : ℕ) → t < z + z → is_set words (64 * at + t) ≡ bit lane (t % z)

-- no place before word `from` has changed, and none from word `to` on
pub record KeepsOthers (from to : ℕ) (new old : List ℕ) : Type 0 where
  pub before : (t : ℕ) → t < 64 * from → place new t ≡ place old t
  pub after : (t : ℕ) → 64 * to ≤ t → place new t ≡ place old t
  pub long : length new ≡ length old
