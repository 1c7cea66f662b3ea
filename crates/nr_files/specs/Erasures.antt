-- The places of a transmission that are erased. Places are counted from 0.
use Rattle.std.specs.Prelude.{ℕ, Bool, true, false, ◌&&◌, nat_le, List, map}
use Rattle.std.specs.List.{list_any, range_with_len}
use Rattle.nr_drawing.specs.Drawing.{places_drawn}
use Rattle.nr_files.specs.declared.erasure.{PlaceRange.PlaceRange, Places.Places}
use Rattle.nr_files.specs.declared.erasure.Places.TheVariants as places
use Rattle.nr_files.specs.declared.erasure.Erasure.{Erasure}
use Rattle.nr_files.specs.declared.erasure.Erasure.TheVariants as erasure

-- the place is in the range
abbrev pub is_within : ℕ → PlaceRange → Bool
is_within m range = nat_le range.first m && nat_le m range.last

-- the place is one of those named
abbrev pub is_named : Places → ℕ → Bool
is_named places.Nothing m = false
is_named places.All m = true
is_named (places.Listed ranges) m = list_any (is_within m) ranges

-- for each of the first `count` places whether it is erased
abbrev pub erased_of : Erasure → ℕ → List Bool
erased_of (erasure.Named meant) count = map (is_named meant) (range_with_len 0 count)
erased_of (erasure.Drawn seed threshold) count = places_drawn seed threshold count
