-- How far ranges of places reach, range by range and place by place.
use Rattle.nr_files.proofs.Common.{◌≡◌, ℕ, ◌+◌, ◌<◌, Bool, ◌||◌, nat_lt, List, [], ◌∷◌, ◌++◌, length}
use Rattle.nr_files.proofs.Common.{take, get_or, ap, ◌∙◌, refl, arith, nat_tests, take_more, list_any, PlaceRange, is_within}
use Rattle.nr_files.{proofs.Common.begins_at, proofs.Common.begins_before, proofs.Common.furthest, specs.inside.Furthest.end_if}
use Rattle.std.proofs.Common.{max}

-- one more range
pub furthest-more : (is_meant : PlaceRange → Bool) (count : ℕ) (ranges : List PlaceRange) (range : PlaceRange)
    → furthest is_meant count (ranges ++ range ∷ [])
    ≡ max (furthest is_meant count ranges) (end_if (is_meant range) count range)
furthest-more is_meant count [] range = omega arith
furthest-more is_meant count (first ∷ ranges) range = let more = furthest-more is_meant count ranges range in omega (arith, more)

-- no range begins before the first place
pub furthest-first : (count : ℕ) (ranges : List PlaceRange) → furthest (begins_before 0) count ranges ≡ 0
furthest-first count [] = refl
furthest-first count (range ∷ ranges) = grind (arith, nat_tests, furthest-first count ranges)

-- one more place
end-next : (m count : ℕ) (range : PlaceRange)
    → end_if (begins_before (m + 1) range) count range ≡ max (end_if (begins_before m range) count range)
    (end_if (begins_at m range) count range)
end-next m count range = grind (arith, nat_tests)

pub furthest-next : (m count : ℕ) (ranges : List PlaceRange)
    → furthest (begins_before (m + 1)) count ranges
    ≡ max (furthest (begins_before m) count ranges) (furthest (begins_at m) count ranges)
furthest-next m count [] = refl
furthest-next m count (range ∷ ranges) = grind (arith, end-next, furthest-next m count ranges)

-- a place is in a range if one that begins at it or before it ends after it
below-end : (m count : ℕ) (range : PlaceRange) → m < count
    → nat_lt m (end_if (begins_before (m + 1) range) count range) ≡ is_within m range
below-end m count range below = grind (arith, nat_tests)

below-max : (m a b : ℕ) → nat_lt m (max a b) ≡ nat_lt m a || nat_lt m b
below-max m a b = grind (arith, nat_tests)

pub below-furthest : (m count : ℕ) (ranges : List PlaceRange) → m < count
    → nat_lt m (furthest (begins_before (m + 1)) count ranges) ≡ list_any (is_within m) ranges
below-furthest m count [] below = grind (arith, nat_tests)
below-furthest m count (range ∷ ranges) below =
    grind (arith, nat_tests, below-max, below-end, below-furthest m count ranges below)

-- a turn over the ranges
pub furthest-turn : (m count i : ℕ) (ranges : List PlaceRange) (none : PlaceRange) → i < length ranges
    → furthest (begins_at m) count (take (i + 1) ranges) ≡ max (furthest (begins_at m) count (take i ranges))
    (end_if (begins_at m (get_or ranges i none)) count (get_or ranges i none))
furthest-turn m count i ranges none there = ap (furthest (begins_at m) count) (take_more ranges i none there)
    ∙ furthest-more (begins_at m) count (take i ranges) (get_or ranges i none)
