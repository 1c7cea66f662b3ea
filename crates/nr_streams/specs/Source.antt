-- What reading a source to its end gives, and the sources over memory.
use Rattle.std.specs.Prelude.{◌≡◌, ℕ, ◌<◌, ◌≤◌, IfSome, List, length, min, Bool, false, ◌==◌, Option, Some}
use Rattle.std.specs.{Io.KnownBytes.Consumes, Prelude.None}
use Rattle.nr_streams.specs.declared.source.Broken.{Broken}

-- the octets are all that were still to come, if that is known; more than `limit` were still to come, if that is known
abbrev pub IsWhole : Option (List ℕ) → List ℕ → Type 0
IsWhole known octets = IfSome known (λ all. octets ≡ all)

abbrev pub HasMore : Option (List ℕ) → ℕ → Type 0
HasMore known limit = IfSome known (λ all. limit < length all)

-- of the octets that were still to come, if that is known, at most `limit` were taken
abbrev pub TookAtMost : ℕ → Option (List ℕ) → Option (List ℕ) → Type 0
TookAtMost limit old new = (taken : List ℕ) × Consumes old new taken × (length taken ≤ limit)

-- the one value of Broken
abbrev pub broken : Broken
broken = record {}

-- A feed: the octets still to come, and how many of them a pull gives at most. Then how many pulls succeed before each
-- one fails (None: none fails), and how many have failed.
pub record Feeding : Type 0 where
  pub octets : List ℕ
  pub step : ℕ
  pub sound : Option ℕ
  pub failed : ℕ

-- a feed's next pull fails
abbrev pub fails_next : Option ℕ → Bool
fails_next None = false
fails_next (Some n) = n == 0

-- how many octets a feed gives to a buffer of this length
abbrev pub fed_count : Feeding → ℕ → ℕ
fed_count f room = min (min (length f.octets) room) f.step

-- A source without end: how many pulls there were.
pub record Pulled : Type 0 where
  pub pulls : ℕ
