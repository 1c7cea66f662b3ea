-- How far ranges of places reach, below a count of places.
use Rattle.std.specs.Prelude.{ℕ, ◌+◌, ◌==◌, min, max, Bool, nat_lt, if◌then◌else◌, List, [], ◌∷◌}
use Rattle.nr_files.specs.declared.erasure.PlaceRange.{PlaceRange}

-- the range begins at this place
abbrev pub begins_at : ℕ → PlaceRange → Bool
begins_at m range = range.first == m

-- the range begins at a place before this one
abbrev pub begins_before : ℕ → PlaceRange → Bool
begins_before m range = nat_lt range.first m

-- the place after a range's last one, at most the count, if the range is meant, and 0 otherwise
abbrev pub end_if : Bool → ℕ → PlaceRange → ℕ
end_if is_meant count range = if is_meant then min (range.last + 1) count else 0

-- the furthest of these ends
abbrev pub furthest : (PlaceRange → Bool) → ℕ → List PlaceRange → ℕ
furthest is_meant count [] = 0
furthest is_meant count (range ∷ ranges) = max (end_if (is_meant range) count range) (furthest is_meant count ranges)
