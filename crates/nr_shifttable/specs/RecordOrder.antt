-- When two table files with the same records in another order give the same table.
use Rattle.std.specs.Prelude.{◌≡◌, ◌≤◌, ◌↔◌, ℕ, Bool, false, List, [], ◌∷◌, length, Ok, IsOk}
use Rattle.std.specs.List.Sorted.{IsPermutation}
use Rattle.nr_shifttable.specs.{Accepted.Entries, Accepted.table_said, Items.is_header, Items.items_said}
use Rattle.nr_streams.specs.Records.{Record, records_of}

-- the first record is a header
abbrev pub has_header : List Record → Bool
has_header [] = false
has_header (r ∷ rs) = is_header r

-- Of two files, one has a record with a fault exactly if the other does. If neither has, both have the same result, a
-- table or its fault. So one is accepted exactly if the other is, with the same table.
pub record AreSaidAlike (text other : List ℕ) : Type 0 where
  pub records : IsOk (items_said text) ↔ IsOk (items_said other)
  pub whole : IsOk (items_said text) → table_said text ≡ table_said other
  pub accepted : (t : Entries) → (table_said text ≡ Ok t) ↔ (table_said other ≡ Ok t)

-- Two files with the same records in another order have the same result if both or neither begin with a header. If no
-- record of either has a fault, both or neither do.
pub record AreMoved (text other : List ℕ) : Type 0 where
  pub alike : has_header (records_of text) ≡ has_header (records_of other) → AreSaidAlike text other
  pub header : IsOk (items_said text) → IsOk (items_said other) → has_header (records_of text) ≡ has_header (records_of other)

-- this is true of any two files of at most 4,194,304 octets each
abbrev pub RecordsMayMove : Type 0
RecordsMayMove =
    (text other : List ℕ) → length text ≤ 4194304 → length other ≤ 4194304
    → IsPermutation (records_of text) (records_of other) → AreMoved text other
