-- The table of shift values of the two LDPC base graphs (TS 38.212, 5.3.2). Then what the text of a table file says,
-- and what is true of each accepted table.
use Rattle.std.specs.Prelude.{◌≡◌, ◌⊎◌, ◌↔◌, IfSome, IsErrOf, ℕ, ◌+◌, ◌<◌, ◌==◌, nat_lt, Bool, true}
use Rattle.std.specs.Prelude.{not, ◌&&◌, ◌||◌, if◌then◌else◌, List, [], ◌∷◌, length, map, filter, fold, All}
use Rattle.std.specs.Prelude.{AllPairs, slice_index, Option, option_map, Result, Ok, Err}
use Rattle.std.specs.List.Sorted.{IsPermutation}
use Rattle.nr_graphpick.specs.declared.{Graph.Graph, Graph.TheVariants.One, Graph.TheVariants.Two}
use Rattle.nr_graphpick.specs.Graph.{rows_of, cols_of, info_cols_of}
use Rattle.nr_shifttable.specs.declared.{entry.Entry.Entry, entry.Item.Item, fault.TableFault.TableFault}
use Rattle.nr_shifttable.specs.declared.fault.TableFault.TheVariants.{Read, Empty, TooLong, Memory}
use Rattle.nr_shifttable.specs.{FirstFault.graph_checked, Items.graph_eq, Items.items_from, Items.items_said}
use Rattle.nr_shifttable.specs.Tails.{values_at, HasShape}
use Rattle.nr_streams.specs.Records.{Record}
use Rattle.nr_refusal.specs.Refusal.{◌>>=◌, Gives}

-- the entries of each base graph, in ascending order of their places
pub record Entries : Type 0 where
  pub one : List Entry
  pub two : List Entry

-- the entries of one base graph
abbrev pub entries_in : Graph → Entries → List Entry
entries_in One t = t.one
entries_in Two t = t.two

-- the table has an entry of a base graph
abbrev pub has_graph : Graph → Entries → Bool
has_graph g t = not (length (entries_in g t) == 0)

-- an entry is before another one: in a row above, or further left in the same row
abbrev pub is_before : Entry → Entry → Bool
is_before x y = nat_lt x.row y.row || (x.row == y.row) && nat_lt x.col y.col

-- a list with one more entry, which goes in front of the first one that is not before it
unfoldable pub with_entry : List Entry → Entry → List Entry
with_entry [] e = e ∷ []
with_entry (x ∷ xs) e = if is_before x e then x ∷ with_entry xs e else e ∷ x ∷ xs

-- the entries that items give to a base graph
abbrev pub entries_for : Graph → List Item → List Entry
entries_for g items = map (λ i. i.entry) (filter (λ i. graph_eq i.graph g) items)

-- the table of a list of items
abbrev pub table_of : List Item → Entries
table_of items = record { one = fold with_entry [] (entries_for One items); two = fold with_entry [] (entries_for Two items) }

-- the shift value at a row and a column of a base graph, for a lifting-size set
abbrev pub value_at : Graph → ℕ → ℕ → ℕ → Entries → Option ℕ
value_at g i j set t = option_map (λ values. slice_index values set) (values_at (entries_in g t) i j)

-- an entry's row and column are those of a base graph, and it has eight values that fit 16 bits each
pub record IsInRange (graph : Graph) (entry : Entry) : Type 0 where
  pub row : entry.row < rows_of graph
  pub col : entry.col < cols_of graph
  pub eight : length entry.values ≡ 8
  pub values : All (λ v. v < 65536) entry.values

-- each entry is before those after it in the list; so no two are at one place
abbrev pub PlacesAscend : List Entry → Type 0
PlacesAscend es = AllPairs (λ x y. is_before x y ≡ true) es

-- each entry is in a column past those of the entries before it
abbrev pub ColumnsAscend : List Entry → Type 0
ColumnsAscend es = AllPairs (λ x y. x.col < y.col) es

-- each entry is in a row past those of the entries before it
abbrev pub RowsAscend : List Entry → Type 0
RowsAscend es = AllPairs (λ x y. x.row < y.row) es

-- the entries of each base graph are within it, in ascending order of their places, as the items of every file are
pub record AreEntries (t : Entries) : Type 0 where
  pub order : (g : Graph) → PlacesAscend (entries_in g t)
  pub in_range : (g : Graph) → All (IsInRange g) (entries_in g t)

-- What is true of every accepted table. It has an entry. Each base graph that has an entry has the shape of the parity
-- columns, in each of the eight lifting-size sets.
pub record IsTable (t : Entries) : Type 0 where
  pub entries : AreEntries t
  pub some : 0 < length t.one + length t.two
  pub shape : (g : Graph) (set : ℕ) → 0 < length (entries_in g t) → set < 8
      → HasShape (entries_in g t) set (info_cols_of g) (rows_of g)

-- a table, or the first fault for which it is refused
unfoldable pub acceptance_of : Entries → Result Entries TableFault
acceptance_of t =
    if (length t.one == 0) && (length t.two == 0) then Err Empty
    else graph_checked One t.one >>= λ _. graph_checked Two t.two >>= λ _. Ok t

-- what a table file's text gives: a table, or the first fault
unfoldable pub table_said : List ℕ → Result Entries TableFault
table_said text =
    if nat_lt 4194304 (length text) then Err TooLong
    else items_said text >>= λ items. acceptance_of (table_of items)

-- What reading a table returns, if the octets are known: that the source failed, or the result for the octets, unless
-- memory ran out.
abbrev pub TellsTable : Option (List ℕ) → Result Entries TableFault → Type 0
TellsTable known r = IfSome known (λ text. IsErrOf r Read ⊎ Gives Memory (λ t. t) r (table_said text))

-- entries are accepted exactly if they are a table: nothing but this shape is required
abbrev pub TablesAreAccepted : Type 0
TablesAreAccepted = (t : Entries) → AreEntries t → (acceptance_of t ≡ Ok t) ↔ IsTable t

-- two files with the same records in another order give the same table, if neither has a fault
abbrev pub OrderDoesNotMatter : Type 0
OrderDoesNotMatter =
    (records others : List Record) (items more : List Item) → IsPermutation records others
    → items_from 1 [] records ≡ Ok items → items_from 1 [] others ≡ Ok more → table_of items ≡ table_of more
