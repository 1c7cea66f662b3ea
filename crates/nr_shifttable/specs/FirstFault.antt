-- Which fault of the parity columns is first: computed tests, for the clauses of refusals. For an accepted table they
-- need not be believed: by the law `TablesAreAccepted` a table is accepted exactly if it has the shape in Tails.antt.
use Rattle.std.specs.Prelude.{if◌then◌else◌, List, [], ◌∷◌, length, slice_index, Option, Some, None, Result, Ok, Err}
use Rattle.std.specs.Prelude.{ℕ, zero, suc, ◌+◌, ◌==◌, nat_lt, Bool, true, false, not, ◌&&◌, ◌||◌}
use Rattle.std.specs.List.{list_all}
use Rattle.nr_graphpick.specs.{declared.Graph.Graph, Graph.rows_of, Graph.info_cols_of}
use Rattle.nr_shifttable.specs.declared.{entry.Entry.Entry, fault.TableFault.TableFault}
use Rattle.nr_shifttable.specs.declared.fault.TableFault.TheVariants.{Core, Extension, MissingRow}
use Rattle.nr_shifttable.specs.Tails.{row_of, tail, values_at}

-- shift values that are 0 in all sets
abbrev pub is_zero : List ℕ → Bool
is_zero values = list_all (λ v. v == 0) values

-- an entry is at this column, with value 0 in all sets
abbrev pub zero_at : ℕ → Entry → Bool
zero_at col e = (e.col == col) && is_zero e.values

-- one such entry, and no other
abbrev pub lone_zero : ℕ → List Entry → Bool
lone_zero col (e ∷ []) = zero_at col e
lone_zero col _ = false

-- two of them, at this column and the next, and no other
abbrev pub zero_pair : ℕ → List Entry → Bool
zero_pair col (e ∷ f ∷ []) = zero_at col e && zero_at (col + 1) f
zero_pair col _ = false

-- at least two of three numbers are equal
abbrev pub two_agree : ℕ → ℕ → ℕ → Bool
two_agree a b c = (a == b) || (b == c) || (a == c)

-- each number below n passes a test
abbrev pub each_below : ℕ → (ℕ → Bool) → Bool
each_below zero test = true
each_below (suc n) test = each_below n test && test n

-- in each of the eight sets at least two of the three values are equal
unfoldable pub three_agree : List ℕ → List ℕ → List ℕ → Bool
three_agree a b c = each_below 8 (λ k. two_agree (slice_index a k) (slice_index b k) (slice_index c k))

-- in one column, rows 0 and 3 and one of rows 1 and 2 have values, and these agree
unfoldable pub rows_agree : Option (List ℕ) → Option (List ℕ) → Option (List ℕ) → Option (List ℕ) → Bool
rows_agree (Some a) (Some b) None (Some d) = three_agree a b d
rows_agree (Some a) None (Some c) (Some d) = three_agree a c d
rows_agree _ _ _ _ = false

-- the first parity column, n, has entries in rows 0 and 3 and in one of rows 1 and 2
unfoldable pub first_column_ok : ℕ → List Entry → Bool
first_column_ok n es = rows_agree (values_at es 0 n) (values_at es 1 n) (values_at es 2 n) (values_at es 3 n)

-- from column n+1 on, rows 0 to 3 have the double diagonal of zeros in columns n+1 to n+3 and nothing else
unfoldable pub diagonals_ok : ℕ → List Entry → Bool
diagonals_ok n es =
    lone_zero (n + 1) (tail es 0 (n + 1))
    && zero_pair (n + 1) (tail es 1 (n + 1))
    && zero_pair (n + 2) (tail es 2 (n + 1))
    && lone_zero (n + 3) (tail es 3 (n + 1))

-- rows 0 to 3 have the core's shape
abbrev pub core_ok : ℕ → List Entry → Bool
core_ok n es = first_column_ok n es && diagonals_ok n es

-- row i has no entry
abbrev pub lacks_row : List Entry → ℕ → Bool
lacks_row es i = length (row_of es i) == 0

-- a row from 4 on that has an entry has, from column n+4 on, only an entry of zeros at column n+i
abbrev pub own_column_ok : ℕ → List Entry → ℕ → Bool
own_column_ok n es i = nat_lt i 4 || lacks_row es i || lone_zero (n + i) (tail es i (n + 4))

-- each row passes this test
unfoldable pub extension_ok : ℕ → ℕ → List Entry → Bool
extension_ok n rows es = each_below rows (own_column_ok n es)

-- each row from 4 on has an entry
abbrev pub is_present : List Entry → ℕ → Bool
is_present es i = nat_lt i 4 || not (lacks_row es i)

-- each row passes this test
unfoldable pub rows_present : ℕ → List Entry → Bool
rows_present rows es = each_below rows (is_present es)

-- a base graph's entries, judged: a table need not have the graph, so it is no fault to have no entries
unfoldable pub graph_checked : Graph → List Entry → Result (Unit {0}) TableFault
graph_checked g es =
    if length es == 0 then Ok tt
    else (if not (core_ok (info_cols_of g) es) then Err (Core g)
    else (if not (extension_ok (info_cols_of g) (rows_of g) es) then Err (Extension g)
    else (if not (rows_present (rows_of g) es) then Err (MissingRow g)
    else Ok tt)))
