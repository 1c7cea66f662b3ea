-- From the tests that decide acceptance to the shape of the parity columns, as lists of columns and values.
use Rattle.nr_shifttable.proofs.Common.{◌≡◌, ℕ, zero, suc, ◌+◌, ◌<◌, ◌≤◌, ◌==◌, nat_le, Bool, true, false}
use Rattle.nr_shifttable.proofs.Common.{◌&&◌, ◌⊎◌, inl, inr, List, [], ◌∷◌, ◌++◌, get_or, map, refl, ap, arith}
use Rattle.nr_shifttable.proofs.Common.{Option, Some, None, Ok, option_map, slice_index, filter, list_all, All, and_parts, eq-eqb}
use Rattle.nr_shifttable.proofs.Common.{eqb-true, le-leb, lt-leb, ne_eqb, nat_tests, Entry, Entries, acceptance_of, ColumnsAscend}
use Rattle.nr_shifttable.proofs.Common.{PlacesAscend, zero_at, lone_zero, zero_pair, two_agree, three_agree, rows_agree}
use Rattle.nr_shifttable.proofs.Common.{first_column_ok, diagonals_ok, core_ok, lacks_row, extension_ok, rows_present}
use Rattle.nr_shifttable.proofs.Common.{graph_checked, row_of, tail_of, One, Two, HasCoreRows}
use Rattle.nr_shifttable.{specs.Tails.value_in, specs.Tails.HasMiddle, proofs.BoundedLoopFacts.each_below-tells}
use Rattle.nr_shifttable.proofs.{RowOrderFacts.row-ascends, SliceFacts.filter_all}
use Rattle.std.{specs.List.find, proofs.lemmas.Bool.cases_order, proofs.lemmas.List.Recursion.found_nowhere}

-- a value of zeros
zero_value : (values : List ℕ) (set : ℕ) → list_all (λ v. v == 0) values ≡ true → slice_index values set ≡ 0
zero_value [] set h = refl
zero_value (v ∷ vs) zero h = eqb-true v 0 (and_parts (v == 0) (list_all (λ v. v == 0) vs) h).0
zero_value (v ∷ vs) (suc set) h = zero_value vs set (and_parts (v == 0) (list_all (λ v. v == 0) vs) h).1

abbrev pub cell : ℕ → Entry → ℕ × ℕ
cell set e = (e.col, value_in set e)

zero_cell : (set col : ℕ) (e : Entry) → zero_at col e ≡ true → cell set e ≡ (col, 0)
zero_cell set col e h = grind (arith, nat_tests, and_parts, eqb-true, zero_value)

lone_zero-is : (set col : ℕ) (es : List Entry) → lone_zero col es ≡ true → map (cell set) es ≡ (col, 0) ∷ []
lone_zero-is set col [] h = cc h
lone_zero-is set col (e ∷ []) h = cc (zero_cell set col e h)
lone_zero-is set col (e ∷ f ∷ es) h = cc h

zero_pair-is : (set col next : ℕ) (es : List Entry) → next ≡ col + 1 → zero_pair col es ≡ true
    → map (cell set) es ≡ (col, 0) ∷ (next, 0) ∷ []
zero_pair-is set col next [] on h = cc h
zero_pair-is set col next (e ∷ []) on h = cc h
zero_pair-is set col next (e ∷ f ∷ []) on h = grind (arith, and_parts, zero_cell)
zero_pair-is set col next (e ∷ f ∷ g ∷ es) on h = cc h

-- the entry at a row and a column, its value in a set, and that value as cells
abbrev pub at_column : List Entry → ℕ → ℕ → Option Entry
at_column es n i = find (λ x. x.col == n) (row_of es i)

abbrev pub value_of : ℕ → Option Entry → Option ℕ
value_of set o = option_map (value_in set) o

abbrev pub cell_at : ℕ → Option ℕ → List (ℕ × ℕ)
cell_at n None = []
cell_at n (Some v) = (n, v) ∷ []

-- the cells of a row from a column on: the one at that column, and those from the next column on
row-splits : (set n : ℕ) (xs : List Entry) → ColumnsAscend xs
    → map (cell set) (filter (λ e. nat_le n e.col) xs) ≡ cell_at n (value_of set (find (λ e. e.col == n) xs))
    ++ map (cell set) (filter (λ e. nat_le (n + 1) e.col) xs)
row-splits set n [] up = refl
row-splits set n (x ∷ xs) up =
    by_order (cases_order x.col n) (row-splits set n xs (λ i j d lt within. up (suc i) (suc j) d (omega arith) (omega arith)))
  where
    past : All (λ y. x.col < y.col) xs
    past k d lt = up 0 (suc k) d (omega arith) (omega arith)

    by_order : (x.col ≡ n) ⊎ ((x.col < n) ⊎ (n < x.col))
        → map (cell set) (filter (λ e. nat_le n e.col) xs) ≡ cell_at n (value_of set (find (λ e. e.col == n) xs))
        ++ map (cell set) (filter (λ e. nat_le (n + 1) e.col) xs)
        → map (cell set) (filter (λ e. nat_le n e.col) (x ∷ xs)) ≡ cell_at n
        (value_of set (find (λ e. e.col == n) (x ∷ xs))) ++ map (cell set) (filter (λ e. nat_le (n + 1) e.col) (x ∷ xs))
    by_order (inl at) more =
        let all = filter_all (λ e. nat_le n e.col) xs
        (λ k d lt. let after = past k d lt in le-leb n (get_or xs k d).col (omega arith)) in
        let next = filter_all (λ e. nat_le (n + 1) e.col) xs
        (λ k d lt. let after = past k d lt in le-leb (n + 1) (get_or xs k d).col (omega arith)) in
        rw (le-leb n x.col (omega arith), lt-leb (n + 1) x.col (omega arith), eq-eqb x.col n at, all, next, at) refl
    by_order (inr (inl below)) more =
        rw (lt-leb n x.col below, lt-leb (n + 1) x.col (omega arith), ne_eqb x.col n (λ e. omega arith)) more
    by_order (inr (inr above)) more =
        let none : find (λ e. e.col == n) xs ≡ None =
        found_nowhere (find (λ e. e.col == n)) (λ e. e.col == n) Some None refl (λ _ _. refl) xs x (λ k lt.
        let after = past k x lt in ne_eqb (get_or xs k x).col n (λ e. omega arith)) in
        rw (le-leb n x.col (omega arith), le-leb (n + 1) x.col (omega arith), ne_eqb x.col n (λ e. omega arith), none)
        (ap (λ l. cell set x ∷ l) (rw none at more))

pub row-cells : (es : List Entry) (set n i : ℕ) → PlacesAscend es
    → tail_of es set n i ≡ cell_at n (value_of set (at_column es n i)) ++ tail_of es set (n + 1) i
row-cells es set n i up = row-splits set n (row_of es i) (row-ascends es i up)

-- one of rows 1 and 2 has this value in the first parity column
abbrev pub IsMiddle : ℕ → Option Entry → Option Entry → ℕ → Type 0
IsMiddle set row1 row2 b = ((value_of set row1 ≡ Some b) × (value_of set row2 ≡ None))
    ⊎ ((value_of set row1 ≡ None) × (value_of set row2 ≡ Some b))

-- the values of the first parity column in one set, two of which agree
pub record FirstColumn (set : ℕ) (row0 row1 row2 row3 : Option Entry) : Type 0 where
  pub first : ℕ
  pub middle : ℕ
  pub last : ℕ
  pub row0_is : value_of set row0 ≡ Some first
  pub rows12_are : IsMiddle set row1 row2 middle
  pub row3_is : value_of set row3 ≡ Some last
  pub agree : (first ≡ middle) ⊎ ((middle ≡ last) ⊎ (first ≡ last))

two_agree-cases : (a b c : ℕ) → two_agree a b c ≡ true → (a ≡ b) ⊎ ((b ≡ c) ⊎ (a ≡ c))
two_agree-cases a b c h = grind (arith, nat_tests)

agree_at : (a b c : List ℕ) (set : ℕ) → three_agree a b c ≡ true → set < 8
    → (slice_index a set ≡ slice_index b set)
    ⊎ ((slice_index b set ≡ slice_index c set) ⊎ (slice_index a set ≡ slice_index c set))
unfolding three_agree
agree_at a b c set all lt = two_agree-cases _ _ _
    ((each_below-tells 8 (λ k. two_agree (slice_index a k) (slice_index b k) (slice_index c k))).0 all set lt)

abbrev pub values_of : Option Entry → Option (List ℕ)
values_of o = option_map (λ e. e.values) o

first_column : (a b c d : Option Entry) (set : ℕ) → rows_agree (values_of a) (values_of b) (values_of c) (values_of d) ≡ true
    → set < 8 → FirstColumn set a b c d
unfolding rows_agree
first_column (Some a) (Some b) None (Some d) set h lt = record {
  first = value_in set a;
  middle = value_in set b;
  last = value_in set d;
  row0_is = refl;
  rows12_are = inl (refl, refl);
  row3_is = refl;
  agree = agree_at a.values b.values d.values set h lt;
}
first_column (Some a) None (Some c) (Some d) set h lt = record {
  first = value_in set a;
  middle = value_in set c;
  last = value_in set d;
  row0_is = refl;
  rows12_are = inr (refl, refl);
  row3_is = refl;
  agree = agree_at a.values c.values d.values set h lt;
}
first_column a b c d set h lt = cc h

pub record Diagonals (es : List Entry) (set n : ℕ) : Type 0 where
  pub row0 : tail_of es set (n + 1) 0 ≡ (n + 1, 0) ∷ []
  pub row1 : tail_of es set (n + 1) 1 ≡ (n + 1, 0) ∷ (n + 2, 0) ∷ []
  pub row2 : tail_of es set (n + 1) 2 ≡ (n + 2, 0) ∷ (n + 3, 0) ∷ []
  pub row3 : tail_of es set (n + 1) 3 ≡ (n + 3, 0) ∷ []

all_four : (a b c d : Bool) → (a && b && c && d) ≡ true → (a ≡ true) × (b ≡ true) × (c ≡ true) × (d ≡ true)
all_four true true true true h = (refl, refl, refl, refl)
all_four a b c d h = cc h

diagonals : (es : List Entry) (set n : ℕ) → diagonals_ok n es ≡ true → Diagonals es set n
unfolding diagonals_ok
diagonals es set n h = grind (arith, all_four, lone_zero-is, zero_pair-is)

middle_rows : (es : List Entry) (set n b : ℕ) → PlacesAscend es → Diagonals es set n
    → IsMiddle set (at_column es n 1) (at_column es n 2) b → HasMiddle es set n b
middle_rows es set n b up d (inl rows) =
    inl (rw (row-cells es set n 1 up, rows.0, d.row1) refl, rw (row-cells es set n 2 up, rows.1, d.row2) refl)
middle_rows es set n b up d (inr rows) =
    inr (rw (row-cells es set n 1 up, rows.0, d.row1) refl, rw (row-cells es set n 2 up, rows.1, d.row2) refl)

pub core-from_tests : (es : List Entry) (set n : ℕ) → PlacesAscend es → set < 8 → core_ok n es ≡ true
    → HasCoreRows es set n
unfolding first_column_ok
core-from_tests es set n up small core =
    let parts = and_parts (first_column_ok n es) (diagonals_ok n es) core in
    let f = first_column (at_column es n 0) (at_column es n 1) (at_column es n 2) (at_column es n 3) set parts.0 small in
    let d = diagonals es set n parts.1 in
    record {
      first = f.first;
      middle = f.middle;
      last = f.last;
      core = record {
        first = rw (row-cells es set n 0 up, f.row0_is, d.row0) refl;
        middle = middle_rows es set n f.middle up d f.rows12_are;
        last = rw (row-cells es set n 3 up, f.row3_is, d.row3) refl;
        two_agree = f.agree;
      };
    }

-- a row from 4 on that has an entry has only its own column past the core's
pub row-from_tests : (n rows : ℕ) (es : List Entry) (set i : ℕ) → extension_ok n rows es ≡ true → 4 ≤ i → i < rows
    → lacks_row es i ≡ false → tail_of es set (n + 4) i ≡ (n + i, 0) ∷ []
unfolding extension_ok
row-from_tests n rows es set i ext late lt there = grind (arith, nat_tests, lone_zero-is, each_below-tells)

-- each row from 4 on has an entry
pub row-is_there : (rows : ℕ) (es : List Entry) (i : ℕ) → rows_present rows es ≡ true → 4 ≤ i → i < rows
    → lacks_row es i ≡ false
unfolding rows_present
row-is_there rows es i present late lt = grind (arith, nat_tests, each_below-tells)

pub accepted-parts : (t u : Entries) → acceptance_of t ≡ Ok u
    → (graph_checked One t.one ≡ Ok tt) × (graph_checked Two t.two ≡ Ok tt) × (t ≡ u)
unfolding acceptance_of
accepted-parts t u h = grind arith
