-- Which fault of the parity columns is named, by the literal lists of columns and values (TS 38.212, 5.3.2).
use Rattle.std.specs.Prelude.{◌≡◌, ℕ, ◌+◌, ◌<◌, ◌≤◌, ◌↔◌, List, [], ◌∷◌, length, Err}
use Rattle.nr_graphpick.specs.declared.{Graph.Graph, Graph.TheVariants.One, Graph.TheVariants.Two}
use Rattle.nr_graphpick.specs.Graph.{rows_of, info_cols_of}
use Rattle.nr_shifttable.specs.{declared.entry.Entry.Entry, Tails.row_of, Tails.tail_of, Tails.HasCore}
use Rattle.nr_shifttable.specs.declared.fault.TableFault.TheVariants.{Core, Extension, MissingRow}
use Rattle.nr_shifttable.specs.Accepted.{Entries, AreEntries, entries_in, acceptance_of}

-- rows 0 to 3 have the core's shape in one set, with some values of the first parity column
pub record HasCoreRows (es : List Entry) (set n : ℕ) : Type 0 where
  pub first : ℕ
  pub middle : ℕ
  pub last : ℕ
  pub core : HasCore es set n first middle last

-- rows 0 to 3 have the core's shape in each of the eight sets
abbrev pub CoreIsWell : Graph → List Entry → Type 0
CoreIsWell g es = (set : ℕ) → set < 8 → HasCoreRows es set (info_cols_of g)

-- row i has an entry
abbrev pub HasRow : List Entry → ℕ → Type 0
HasRow es i = 0 < length (row_of es i)

-- Each row i from 4 on that has an entry has, past the core's columns, only its own column. Its value there is 0 in
-- each of the eight sets.
abbrev pub ExtensionIsWell : Graph → List Entry → Type 0
ExtensionIsWell g es =
    (set i : ℕ) → set < 8 → 4 ≤ i → i < rows_of g → HasRow es i
    → tail_of es set (info_cols_of g + 4) i ≡ (info_cols_of g + i, 0) ∷ []

-- each row from 4 on has an entry
abbrev pub RowsAreThere : Graph → List Entry → Type 0
RowsAreThere g es = (i : ℕ) → 4 ≤ i → i < rows_of g → HasRow es i

-- a base graph that has an entry has no fault
pub record IsWell (g : Graph) (es : List Entry) : Type 0 where
  pub core : CoreIsWell g es
  pub extension : ExtensionIsWell g es
  pub rows : RowsAreThere g es

-- a base graph has an entry, and the base graph before it has no fault if it has an entry
abbrev pub IsReached : Graph → Entries → Type 0
IsReached One t = 0 < length t.one
IsReached Two t = (0 < length t.two) × (0 < length t.one → IsWell One t.one)

-- Core is named exactly if rows 0 to 3 lack the core's shape in one of the eight sets
abbrev pub CoreIsNamed : Type 0
CoreIsNamed = (t : Entries) (g : Graph) → AreEntries t
    → (acceptance_of t ≡ Err (Core g)) ↔ (IsReached g t × (CoreIsWell g (entries_in g t) → ⊥))

-- Extension is named exactly if rows 0 to 3 have that shape, and some row from 4 on that has an entry is wrong. It
-- lacks its own column, has a value other than 0 there, or has another column past the core's.
abbrev pub ExtensionIsNamed : Type 0
ExtensionIsNamed =
    (t : Entries) (g : Graph) → AreEntries t
    → (acceptance_of t ≡ Err (Extension g))
    ↔ (IsReached g t × CoreIsWell g (entries_in g t) × (ExtensionIsWell g (entries_in g t) → ⊥))

-- MissingRow is named exactly if the rows that have entries are well, and a row from 4 on has no entry
abbrev pub MissingRowIsNamed : Type 0
MissingRowIsNamed =
    (t : Entries) (g : Graph) → AreEntries t
    → (acceptance_of t ≡ Err (MissingRow g))
    ↔ (IsReached g t × CoreIsWell g (entries_in g t) × ExtensionIsWell g (entries_in g t)
    × (RowsAreThere g (entries_in g t) → ⊥))
