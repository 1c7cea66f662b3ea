-- What a text says about places: a place list, the places that a field names, and the erasure of a transmission.
use Rattle.std.specs.Prelude.{ℕ, ◌+◌, ◌==◌, nat_lt, nat_le, nat_eq, if◌then◌else◌, List, [], ◌∷◌, take, drop}
use Rattle.std.specs.Prelude.{codes, bytes_eq, Option, Some, None, option_and_then, option_map}
use Rattle.std.specs.List.{position, slice_split, starts_with}
use Rattle.nr_streams.specs.Fields.{numeral, short_number}
use Rattle.nr_files.specs.declared.erasure.{PlaceRange.PlaceRange, Places.Places, Erasure.Erasure}
use Rattle.nr_files.specs.declared.erasure.Places.TheVariants.{Nothing, All, Listed}
use Rattle.nr_files.specs.declared.erasure.Erasure.TheVariants.{Named, Drawn}

-- a number that is below a limit
abbrev pub below : ℕ → Option ℕ → Option ℕ
below limit number = option_and_then (λ n. if nat_lt n limit then Some n else None) number

-- the text before the first such character of a text, and the text after it
abbrev pub text_parts : ℕ → List ℕ → Option (List ℕ × List ℕ)
text_parts c text = option_map (λ at. (take at text, drop (at + 1) text)) (position (λ x. x == c) text)

-- the places from the first to the last, which must not be less
abbrev pub range_between : ℕ → ℕ → Option PlaceRange
range_between first last = if nat_le first last then Some (record { first = first; last = last }) else None

-- an item without a hyphen is one place; another is the places from its first number to its last
abbrev pub range_of_parts : List ℕ → Option (List ℕ × List ℕ) → Option PlaceRange
range_of_parts item None = option_map (λ place. record { first = place; last = place }) (short_number item)
range_of_parts item (Some parts) =
    option_and_then (λ first. option_and_then (λ last. range_between first last) (short_number parts.1)) (short_number parts.0)

-- an item of a place list: a place `m`, or a range `m-n`
unfoldable pub range_of : List ℕ → Option PlaceRange
range_of item = range_of_parts item (text_parts 45 item)

-- the ranges of items, if each is one
abbrev pub ranges_of : List (List ℕ) → Option (List PlaceRange)
ranges_of [] = Some []
ranges_of (item ∷ items) = option_and_then (λ range. option_map (λ ranges. range ∷ ranges) (ranges_of items)) (range_of item)

-- a place list: one or more items with one space (32) between them
unfoldable pub place_list : List ℕ → Option (List PlaceRange)
place_list text = ranges_of (slice_split (λ c. c == 32) text)

-- the places that a field names
unfoldable pub places_of : List ℕ → Option Places
places_of text =
    if bytes_eq text (codes "-") then Some Nothing
    else if bytes_eq text (codes "all") then Some All
    else option_map Listed (place_list text)

-- the seed of 64 bits and the threshold of 32 bits of drawn erasures
abbrev pub drawn_of_parts : Option (List ℕ × List ℕ) → Option Erasure
drawn_of_parts None = None
drawn_of_parts (Some parts) =
    option_and_then (λ seed. option_map (λ threshold. Drawn seed threshold) (below 4294967296 (short_number parts.1)))
    (below 18446744073709551616 (numeral 20 parts.0))

-- the erasure of a transmission: `pcg:seed:threshold`, or the places that are named
unfoldable pub erasure_of : List ℕ → Option Erasure
erasure_of text =
    if starts_with nat_eq text (codes "pcg:") then drawn_of_parts (text_parts 58 (drop 4 text))
    else option_map Named (places_of text)
