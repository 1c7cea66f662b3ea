-- Code block concatenation (TS 38.212, 5.5). The bits of the code blocks follow one another.
use Rattle.std.specs.Prelude.{◌≡◌, ℕ, ◌+◌, ◌-◌, ◌<◌, nat_lt, if◌then◌else◌, List, [], ◌∷◌, length}
use Rattle.std.specs.Prelude.{sum, take, slice_index}

-- place m of the joined list is place p of code block r; these are the lengths of the code blocks
pub record IsOwner (lengths : List ℕ) (m r p : ℕ) : Type 0 where
  pub block : r < length lengths
  pub inside : p < slice_index lengths r
  pub joined : m ≡ sum (take r lengths) + p

-- the code block of place m, and its place there
abbrev pub owner_of : List ℕ → ℕ → ℕ × ℕ
owner_of [] m = (0, m)
owner_of (e ∷ lengths) m =
    if nat_lt m e then (0, m) else (1 + (owner_of lengths (m - e)).0, (owner_of lengths (m - e)).1)

-- the place has an owner, which is the only one
pub record HasOneOwner (lengths : List ℕ) (m : ℕ) : Type 0 where
  pub owner : IsOwner lengths m (owner_of lengths m).0 (owner_of lengths m).1
  pub only : (r p : ℕ) → IsOwner lengths m r p → (r, p) ≡ owner_of lengths m

-- each place of the joined list has one owner
abbrev pub PlacesHaveOneOwner : Type 0
PlacesHaveOneOwner = (lengths : List ℕ) (m : ℕ) → m < sum lengths → HasOneOwner lengths m
