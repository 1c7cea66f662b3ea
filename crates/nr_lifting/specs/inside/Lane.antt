-- Definitions that only the proofs need, beside those of Lane.antt.
use Rattle.std.specs.Prelude.{◌≡◌, ℕ, ◌+◌, ◌-◌, ◌*◌, ◌%◌, ◌<◌, ◌≤◌, min, max, List}
use Rattle.std.specs.Int.{bit_at}
use Rattle.nr_bitvec.specs.Packed.{place, IsClear}

-- A lane of z bits has as many words as z places need, and no place is set from place z on.
pub record IsLane (z w : ℕ) (ws : List ℕ) : Type 0 where
  pub above : 64 * w < z + 64
  pub below : z ≤ 64 * w
  pub clear : IsClear ws z

-- ---- sums and counts of lanes, by the places of their words

abbrev pub AddsPlaces : ℕ → List ℕ → List ℕ → List ℕ → ℕ → Type 0
AddsPlaces z new old src p = (t : ℕ) → t < z → place new t ≡ (place old t + place src ((t + p) % z)) % 2

abbrev pub JoinsPlaces : ℕ → List ℕ → List ℕ → List ℕ → ℕ → Type 0
JoinsPlaces z new old src p = (t : ℕ) → t < z → place new t ≡ max (place old t) (place src ((t + p) % z))

abbrev pub MeetsPlaces : ℕ → List ℕ → List ℕ → List ℕ → List ℕ → ℕ → Type 0
MeetsPlaces z new old ones src p =
    (t : ℕ) → t < z → place new t ≡ max (place old t) (min (place ones t) (place src ((t + p) % z)))

-- the word has the places from place `start` on, after all places have moved up by `up`
abbrev pub IsMovedWord : List ℕ → ℕ → ℕ → ℕ → Type 0
IsMovedWord ws start up word = (j : ℕ) → j < 64 → up ≤ start + j → bit_at word j ≡ place ws (start + j - up)

-- the word has the bits of a block of z bits, from bit 64 i on, after a rotation by p
abbrev pub IsRotatedWord : ℕ → List ℕ → ℕ → ℕ → ℕ → Type 0
IsRotatedWord z ws i p word = (j : ℕ) → j < 64 → 64 * i + j < z → bit_at word j ≡ place ws ((64 * i + j + p) % z)
