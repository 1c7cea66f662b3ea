-- The code blocks that a field of the schedule names (TS 38.212, 5.4.2.1).
use Rattle.std.specs.Prelude.{◌≡◌, ℕ, ◌<◌, Bool, List, map, Option, Some, None, option_and_then}
use Rattle.std.specs.List.{list_any, range_with_len}
use Rattle.nr_files.specs.{Erasures.is_within, Erasures.is_named, PlaceLists.places_of, declared.erasure.Places.Places}
use Rattle.nr_ratematch.specs.{Lengths.is_scheduled, Marks.mask_words}
use Rattle.nr_files.specs.declared.erasure.Places.TheVariants as places
use Rattle.nr_ratematch.specs.declared.mask.Mask.{Mask}
use Rattle.nr_ratematch.specs.declared.mask.Mask.TheVariants as mask

-- the words for code blocks 0 to 383: code block r has bit r mod 64 of word r div 64
abbrev pub mask_words_of : (ℕ → Bool) → List ℕ
mask_words_of is_on = mask_words (map is_on (range_with_len 0 384))

-- the code blocks of these places; no mask says that none is scheduled
abbrev pub mask_of_places : Places → Option Mask
mask_of_places places.Nothing = None
mask_of_places places.All = Some mask.All
mask_of_places (places.Listed ranges) = Some (mask.Only (mask_words_of (λ r. list_any (is_within r) ranges)))

-- the code blocks that a field schedules: `all`, or a place list
unfoldable pub mask_of : List ℕ → Option Mask
mask_of text = option_and_then mask_of_places (places_of text)

-- the code blocks that are scheduled are those that these places name
abbrev pub IsMaskOf : Places → Mask → Type 0
IsMaskOf places mask = (r : ℕ) → r < 384 → is_scheduled mask r ≡ is_named places r
