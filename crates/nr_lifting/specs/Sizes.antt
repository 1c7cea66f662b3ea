-- The lifting sizes, their set index, and the least one that suits (TS 38.212, Table 5.3.2-1).
use Rattle.std.specs.Prelude.{◌≡◌, ℕ, ◌*◌, Bool, ◌==◌, ◌&&◌, true, nat_lt, nat_le}
use Rattle.std.specs.Prelude.{Option, List, [], ◌∷◌, find, flat_map, position, IsPermutation}
use Rattle.std.specs.List.{list_any}

-- the lifting sizes by their set index: the first row has those of set index 0 (TS 38.212, Table 5.3.2-1)
abbrev pub size_sets : List (List ℕ)
size_sets =
    (2 ∷ 4 ∷ 8 ∷ 16 ∷ 32 ∷ 64 ∷ 128 ∷ 256 ∷ [])
    ∷ (3 ∷ 6 ∷ 12 ∷ 24 ∷ 48 ∷ 96 ∷ 192 ∷ 384 ∷ [])
    ∷ (5 ∷ 10 ∷ 20 ∷ 40 ∷ 80 ∷ 160 ∷ 320 ∷ [])
    ∷ (7 ∷ 14 ∷ 28 ∷ 56 ∷ 112 ∷ 224 ∷ [])
    ∷ (9 ∷ 18 ∷ 36 ∷ 72 ∷ 144 ∷ 288 ∷ [])
    ∷ (11 ∷ 22 ∷ 44 ∷ 88 ∷ 176 ∷ 352 ∷ [])
    ∷ (13 ∷ 26 ∷ 52 ∷ 104 ∷ 208 ∷ [])
    ∷ (15 ∷ 30 ∷ 60 ∷ 120 ∷ 240 ∷ [])
    ∷ []

-- a number is in a list
abbrev pub is_in : ℕ → List ℕ → Bool
is_in z sizes = list_any (λ size. size == z) sizes

-- the set index of a lifting size; none if the table lacks the number
unfoldable pub set_index : ℕ → Option ℕ
set_index z = position (is_in z) size_sets

-- the 51 lifting sizes in ascending order
abbrev pub sizes : List ℕ
sizes =
    2 ∷ 3 ∷ 4 ∷ 5 ∷ 6 ∷ 7 ∷ 8 ∷ 9 ∷ 10 ∷ 11 ∷ 12 ∷ 13 ∷ 14 ∷ 15 ∷ 16 ∷ 18 ∷ 20
    ∷ 22 ∷ 24 ∷ 26 ∷ 28 ∷ 30 ∷ 32 ∷ 36 ∷ 40 ∷ 44 ∷ 48 ∷ 52 ∷ 56 ∷ 60 ∷ 64 ∷ 72
    ∷ 80 ∷ 88 ∷ 96 ∷ 104 ∷ 112 ∷ 120 ∷ 128 ∷ 144 ∷ 160 ∷ 176 ∷ 192 ∷ 208 ∷ 224
    ∷ 240 ∷ 256 ∷ 288 ∷ 320 ∷ 352 ∷ 384 ∷ []

-- the least lifting size with which `kb` columns hold `need` bits (TS 38.212, 5.2.2); none if no size is enough
unfoldable pub least_size : ℕ → ℕ → Option ℕ
least_size kb need = find (λ z. nat_le need (kb * z)) sizes

-- each number is above the one before it, and at most twice as large
unfoldable pub climbs : ℕ → List ℕ → Bool
climbs before [] = true
climbs before (z ∷ later) = nat_lt before z && nat_le z (2 * before) && climbs z later

-- The ascending list has the sizes of the eight sets, each once. It begins with 2. Each later size is above the one
-- before it, and at most twice as large.
pub record IsSizeTable : Type 0 where
  pub same : IsPermutation (flat_map (λ set. set) size_sets) sizes
  pub steps : climbs 1 sizes ≡ true
