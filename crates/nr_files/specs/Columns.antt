-- The columns of a schedule file.
use Rattle.std.specs.Prelude.{ℕ, ◌==◌, Bool, ◌&&◌, List, [], ◌∷◌, length, map, codes, bytes_eq, Option}
use Rattle.std.specs.{Prelude.option_and_then, Prelude.option_map, List.list_any, List.position, List.starts_with, Option.is_some}
use Rattle.csv.specs.Records.{field_at}
use Rattle.nr_streams.specs.{Fields.text_of_field, Records.Record}

-- the names of the columns, in their order
abbrev pub column_names : List (List ℕ)
column_names =
    codes "block" ∷ codes "rv" ∷ codes "g" ∷ codes "qm" ∷ codes "nl" ∷ codes "erase" ∷ codes "flip" ∷ codes "mask"
    ∷ codes "process" ∷ codes "fresh" ∷ []

-- how many columns a schedule can have
abbrev pub is_width : ℕ → Bool
is_width n = list_any (λ width. width == n) (6 ∷ 7 ∷ 8 ∷ 10 ∷ [])

-- the record that names the columns: it is the first 6, 7, 8 or 10 of these names
unfoldable pub is_schedule_header : Record → Bool
is_schedule_header r = is_width (length r) && starts_with bytes_eq column_names (map text_of_field r)

-- a record's field in the column of this name, without the blanks at both ends; `None` if there is no such column
abbrev pub field : Record → List ℕ → Option (List ℕ)
field r name = option_map text_of_field (option_and_then (field_at r) (position (bytes_eq name) column_names))

-- there is a column of this name
abbrev pub has_column : Record → List ℕ → Bool
has_column r name = is_some (field r name)
