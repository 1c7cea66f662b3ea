-- The items of a table in their order, and the table that a caller's entries give.
use Rattle.std.specs.Prelude.{◌≡◌, ℕ, ◌+◌, ◌==◌, nat_lt, Bool, not, ◌&&◌, ◌||◌, if◌then◌else◌, List}
use Rattle.std.specs.Prelude.{[], ◌∷◌, ◌++◌, map, Result, Ok, Err}
use Rattle.nr_graphpick.specs.declared.{Graph.Graph, Graph.TheVariants.One, Graph.TheVariants.Two}
use Rattle.nr_graphpick.specs.Graph.{rows_of, cols_of}
use Rattle.nr_refusal.specs.Refusal.{◌>>=◌, with_fault}
use Rattle.nr_shifttable.specs.declared.entry.{Entry.Entry, Item.Item, KeptEntry.KeptEntry}
use Rattle.nr_shifttable.specs.declared.fault.EntriesFault.{EntriesFault}
use Rattle.nr_shifttable.specs.declared.fault.EntriesFault.TheVariants as fault
use Rattle.nr_shifttable.specs.{Accepted.Entries, Accepted.table_of, Accepted.acceptance_of, Accepted.IsTable, Orders.key_of}

-- where an item is among the places of both base graphs: base graph 1 is before base graph 2, and each goes row by row
abbrev pub item_key : Item → ℕ
item_key x = key_of x.graph x.entry.row x.entry.col

-- an item's row and column are those of its base graph
abbrev pub is_of_graph : Item → Bool
is_of_graph x = nat_lt x.entry.row (rows_of x.graph) && nat_lt x.entry.col (cols_of x.graph)

abbrev pub item_in_graph : Graph → Entry → Item
item_in_graph g e = record { graph = g; entry = e }

-- ---- entries that a caller keeps

-- the number of a base graph
abbrev pub graph_number : Graph → ℕ
graph_number One = 1
graph_number Two = 2

-- an item, as a caller keeps it
abbrev pub kept_of : Item → KeptEntry
kept_of x = record { graph = graph_number x.graph; entry = x.entry }

-- its base graph is 1 or 2
abbrev pub names_graph : KeptEntry → Bool
names_graph e = (e.graph == 1) || (e.graph == 2)

-- the item that it is, if so
abbrev pub item_kept : KeptEntry → Item
item_kept e = item_in_graph (if e.graph == 1 then One else Two) e.entry

-- it is at a place of its base graph
abbrev pub is_placed : KeptEntry → Bool
is_placed e = names_graph e && is_of_graph (item_kept e)

-- The fault of the places of entries from entry k on, or nothing, if the keys of those before entry k are all below
-- `past`. It is that of the first entry that is outside its base graph, or not past those before it.
unfoldable pub places_from : ℕ → ℕ → List KeptEntry → Result (Unit {0}) EntriesFault
places_from k past [] = Ok tt
places_from k past (e ∷ es) =
    if not (is_placed e) then Err (fault.Range k)
    else if nat_lt (item_key (item_kept e)) past then Err (fault.Order k)
    else places_from (k + 1) (item_key (item_kept e) + 1) es

-- that of all entries of a list, whose first is number 1
abbrev pub places_said : List KeptEntry → Result (Unit {0}) EntriesFault
places_said es = places_from 1 0 es

-- what entries that a caller kept give: their table, or the first fault
unfoldable pub entries_said : List KeptEntry → Result Entries EntriesFault
entries_said es = places_said es >>= λ _. with_fault fault.Table (acceptance_of (table_of (map item_kept es)))

-- the items of a table, in ascending order, and the same as a caller keeps them
abbrev pub items_listed : Entries → List Item
items_listed t = map (item_in_graph One) t.one ++ map (item_in_graph Two) t.two

abbrev pub kept_listed : Entries → List KeptEntry
kept_listed t = map kept_of (items_listed t)

-- the list of a table is accepted, and gives the same table
abbrev pub ListedAreKept : Type 0
ListedAreKept = (t : Entries) → IsTable t → entries_said (kept_listed t) ≡ Ok t
