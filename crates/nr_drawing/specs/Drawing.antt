-- The places that a generator draws. Places are counted from 0, and each takes a word.
use Rattle.std.specs.Prelude.{◌≡◌, ℕ, ◌<◌, Bool, if◌then◌else◌, nat_lt, List, length, map}
use Rattle.std.specs.Prelude.{slice_index, slice_index_or}
use Rattle.nr_bitvec.specs.Bit.{bit}
use Rattle.rand_core.specs.Steps.{first_words}
use Rattle.rand_pcg.specs.Lcg.{Lcg, started, increment_of}
use Rattle.rand_pcg.specs.Pcg.{pcg32, multiplier_64}

-- for each of the next `count` words of a generator whether it is below the threshold
abbrev pub marks_drawn : ℕ → ℕ → Lcg → List Bool
marks_drawn threshold count generator = map (λ word. nat_lt word threshold) (first_words pcg32 count generator)

-- PCG-XSH-RR 64/32 from a seed, on stream 54
abbrev pub seeded : ℕ → Lcg
seeded seed = started 64 multiplier_64 seed (increment_of 64 54)

-- for each of the first `count` places whether it is drawn
abbrev pub places_drawn : ℕ → ℕ → ℕ → List Bool
places_drawn seed threshold count = marks_drawn threshold count (seeded seed)

-- for each of the next `count` places whether generator j of a list draws it
abbrev pub drawn_by : List Lcg → ℕ → ℕ → ℕ → List Bool
drawn_by generators threshold count j = marks_drawn threshold count (slice_index_or generators j (seeded 0))

-- one of some numbers
abbrev pub IsAmong : List ℕ → ℕ → Type 0
IsAmong listed j = (i : ℕ) × ((i < length listed) × (slice_index listed i ≡ j))

-- numbers of rounds below 64, in order
pub record AreRounds (listed : List ℕ) : Type 0 where
  pub few : (i : ℕ) → i < length listed → slice_index listed i < 64
  pub order : (i k : ℕ) → i < k → k < length listed → slice_index listed i < slice_index listed k

-- octets of which those at marked places are this one, and the others are unchanged
pub record AreOverwritten (octet : ℕ) (marks : List Bool) (old new : List ℕ) : Type 0 where
  pub long : length new ≡ length old
  pub each : (m : ℕ) → m < length old → slice_index_or new m 0 ≡ (if bit marks m then octet else slice_index_or old m 0)
