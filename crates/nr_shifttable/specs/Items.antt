-- The items of a table file: what its records write, or the first fault.
use Rattle.std.specs.Prelude.{◌≡◌, ℕ, ◌+◌, ◌==◌, ◌&&◌, Bool, true, false, nat_lt, not, if◌then◌else◌}
use Rattle.std.specs.Prelude.{List, [], ◌∷◌, ◌++◌, length, codes, bytes_eq, AllPairs, Option, Some, None, option_and_then}
use Rattle.std.specs.{Prelude.option_map, Prelude.Result, Prelude.Ok, Prelude.Err, List.list_all, List.list_any}
use Rattle.nr_graphpick.specs.{Graph.cols_of, Graph.rows_of, declared.Graph.Graph}
use Rattle.nr_graphpick.specs.declared.Graph.TheVariants.{One, Two}
use Rattle.nr_streams.specs.{Fields.short_number, Fields.text_of_field, Records.Record, Records.records_of}
use Rattle.nr_refusal.specs.Refusal.{◌>>=◌, or_fault}
use Rattle.nr_shifttable.specs.declared.{entry.Item.Item, fault.TableFault.TableFault}
use Rattle.nr_shifttable.specs.declared.fault.TableFault.TheVariants as fault

-- the first field of a header is the word `graph`
abbrev pub is_header : Record → Bool
is_header [] = false
is_header (f ∷ fs) = bytes_eq (text_of_field f) (codes "graph")

-- the numbers of a record's fields, if each field is one
abbrev pub short_numbers : Record → Option (List ℕ)
short_numbers [] = Some []
short_numbers (f ∷ fs) = option_and_then (λ n. option_map (λ ns. n ∷ ns) (short_numbers fs)) (short_number (text_of_field f))

-- the base graph of a number
abbrev pub graph_of : ℕ → Option Graph
graph_of n = if n == 1 then Some One else if n == 2 then Some Two else None

-- an entry of a base graph: its row and column are those of the graph, and its values fit 16 bits (TS 38.212, 5.3.2)
abbrev pub item_in : Graph → ℕ → ℕ → List ℕ → Option Item
item_in graph row col values =
    if nat_lt row (rows_of graph) && nat_lt col (cols_of graph) && list_all (λ v. nat_lt v 65536) values
    then Some (record { graph = graph; entry = record { row = row; col = col; values = values } })
    else None

-- the item of a record's numbers: base graph, row, column, and the values of the eight lifting-size sets
abbrev pub item_of_numbers : List ℕ → Option Item
item_of_numbers (graph ∷ row ∷ col ∷ values) = option_and_then (λ g. item_in g row col values) (graph_of graph)
item_of_numbers _ = None

-- two base graphs are equal
abbrev pub graph_eq : Graph → Graph → Bool
graph_eq One One = true
graph_eq One Two = false
graph_eq Two One = false
graph_eq Two Two = true

-- an item is at the place of another: in the same base graph, row and column
abbrev pub same_place : Item → Item → Bool
same_place x y = graph_eq x.graph y.graph && (x.entry.row == y.entry.row) && (x.entry.col == y.entry.col)

-- one of the items is at the place of this one
abbrev pub has_place : List Item → Item → Bool
has_place items item = list_any (λ x. same_place x item) items

-- What record k, counted from 1, says after the items of the records before it: an item, or none if it is a header.
-- Each record has as many fields as record 1, and record 1 has eleven.
unfoldable pub item_of : ℕ → List Item → Record → Result (Option Item) TableFault
item_of k earlier r =
    if not (length r == 11) then Err (if k == 1 then fault.Fields else fault.Csv k)
    else if (k == 1) && is_header r then Ok None
    else do
      numbers ← or_fault (fault.Number k) (short_numbers r)
      found ← or_fault (fault.Range k) (item_of_numbers numbers)
      if has_place earlier found then Err (fault.Twice k) else Ok (Some found)

-- items with one more, if there is one
abbrev pub with_item : List Item → Option Item → List Item
with_item items None = items
with_item items (Some x) = items ++ x ∷ []

-- what the records from record k on say, after the items of those before them
unfoldable pub items_from : ℕ → List Item → List Record → Result (List Item) TableFault
items_from k items [] = Ok items
items_from k items (r ∷ rs) = item_of k items r >>= λ found. items_from (k + 1) (with_item items found) rs

-- the items of a table file's text, or the first fault
abbrev pub items_said : List ℕ → Result (List Item) TableFault
items_said text = items_from 1 [] (records_of text)

-- No two items are at one place.
abbrev pub Apart : List Item → Type 0
Apart items = AllPairs (λ x y. same_place x y ≡ false) items
