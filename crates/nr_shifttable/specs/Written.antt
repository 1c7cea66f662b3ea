-- The items of a table file, by all its records at once.
use Rattle.std.specs.Prelude.{◌≡◌, ◌↔◌, if◌then◌else◌, List, [], ◌∷◌, length, map, All, Option, Some}
use Rattle.std.specs.Prelude.{option_and_then, Ok}
use Rattle.nr_shifttable.specs.Items.{Apart, is_header, item_of_numbers, items_from, short_numbers}
use Rattle.nr_streams.specs.Records.{Record}
use Rattle.nr_shifttable.specs.declared.entry.Item.{Item}

-- the records after the header, if there is one: only the first record can be a header
abbrev pub without_header : List Record → List Record
without_header [] = []
without_header (r ∷ rs) = if is_header r then rs else r ∷ rs

-- the item that a record writes, if each field is a number and these are an item within its base graph
abbrev pub item_written : Record → Option Item
item_written r = option_and_then item_of_numbers (short_numbers r)

-- Each record has eleven fields. Each but the header writes an item, and these are the items, in the order of the
-- records. No two items are at one place.
pub record IsWritten (records : List Record) (items : List Item) : Type 0 where
  pub eleven : All (λ r. length r ≡ 11) records
  pub written : map item_written (without_header records) ≡ map Some items
  pub apart : Apart items

-- these records give these items exactly if they write them like this; otherwise there is a fault
abbrev pub ItemsAreWritten : Type 0
ItemsAreWritten = (records : List Record) (items : List Item) → (items_from 1 [] records ≡ Ok items) ↔ IsWritten records items
