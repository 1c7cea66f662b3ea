-- The entries of an accepted table: in range, and no column twice in a row; so the parity checks are sound.
use Rattle.nr_peel.proofs.Common.{rules, nat_tests, ◌≡◌, ℕ, ◌+◌, ◌-◌, ◌*◌, ◌/◌, ◌%◌, ◌<◌, ◌≤◌}
use Rattle.nr_peel.proofs.Common.{◌==◌, true, List, [], ◌∷◌, zero, suc, length, length-map, map, refl, sym, ap, ◌∙◌}
use Rattle.nr_peel.proofs.Common.{inl, inr, arith, ◌⊎◌, cases_lt, count_by, All, or_cases, eqb-true, eq-eqb, false≢true}
use Rattle.nr_peel.proofs.Common.{All-filter, mod_below, div-mul-add, Graph, rows_of, cols_of, info_cols_of, Numbers, Entry}
use Rattle.nr_peel.proofs.Common.{Ascending, Entries, IsTable, entries_in, row_of, tail_of, HasShape, value_in, block_checks}
use Rattle.nr_peel.proofs.Common.{one_at, AreSound, stands, times_in, place_below}
use Rattle.nr_peel.proofs.RowPositionFacts.{count_no, count_yes, count_map, count_within}
use Rattle.std.proofs.lemmas.List.Elements.{All-head, All-tail}
use Rattle.nr_shifttable.{specs.Tails.tail, proofs.EntryOrderFacts.in_table-order}
use Rattle.nr_shifttable.specs.inside.Orders as orders

-- entries of rows below `rows` and columns below `cols`, no column twice in a row
pub record IsGrid (es : List Entry) (rows cols : ℕ) : Type 0 where
  pub in_rows : All (λ e. e.row < rows) es
  pub in_cols : All (λ e. e.col < cols) es
  pub ascending : Ascending 0 es

pub table_grid : (t : Entries) (g : Graph) → IsTable t → IsGrid (entries_in g t) (rows_of g) (cols_of g)
table_grid t g table = record {
  in_rows = λ k d lt. (table.entries.in_range g k d lt).row;
  in_cols = λ k d lt. (table.entries.in_range g k d lt).col;
  ascending = in_table-order t g table;
}

-- A column occurs at most once in a row, and not if its place is below the least.
column_once : (es : List Entry) (low i j : ℕ) → Ascending low es
    → (count_by (λ e. e.col == j) (row_of es i) ≡ 0)
    ⊎ ((count_by (λ e. e.col == j) (row_of es i) ≡ 1) × (low ≤ 68 * i + j))
column_once [] low i j up = inl refl
column_once (e ∷ es) low i j up =
    grind (
      arith,
      nat_tests,
      column_once es (orders.entry_place e + 1) i j up.2,
      count_no (λ (x : Entry). x.col == j) e (row_of es i),
      count_yes (λ (x : Entry). x.col == j) e (row_of es i),
      eqb-true,
    )

-- At most m entries of a row are before column m.
short_before : (es : List Entry) (low i m : ℕ) → Ascending low es
    → length (row_of es i) ≤ length (tail es i m) + (m - (low - 68 * i))
short_before [] low i m up = omega arith
short_before (e ∷ es) low i m up = grind (arith, nat_tests, short_before es (orders.entry_place e + 1) i m up.2, eqb-true)

tail_long : (es : List Entry) (set from i : ℕ) (cells : List (ℕ × ℕ)) → tail_of es set from i ≡ cells
    → length (tail es i from) ≡ length cells
tail_long es set from i cells is = sym (length-map (tail es i from) (λ (e : Entry). (e.col, value_in set e))) ∙ ap length is

-- A row has few entries: those before the parity columns and three of these, or those before the core's end and its own.
row_few : (es : List Entry) (n rows i : ℕ) → HasShape es 0 n rows → Ascending 0 es → i < rows
    → length (row_of es i) ≤ n + 5
row_few es n rows zero shape up lt = omega (arith, short_before es 0 0 n up, tail_long es 0 n 0 _ shape.core.first)
row_few es n rows (suc zero) shape up lt = elim shape.core.middle [
  | inl is ↦ omega (arith, short_before es 0 1 n up, tail_long es 0 n 1 _ is.0)
  | inr is ↦ omega (arith, short_before es 0 1 n up, tail_long es 0 n 1 _ is.0)
]
row_few es n rows (suc (suc zero)) shape up lt = elim shape.core.middle [
  | inl is ↦ omega (arith, short_before es 0 2 n up, tail_long es 0 n 2 _ is.1)
  | inr is ↦ omega (arith, short_before es 0 2 n up, tail_long es 0 n 2 _ is.1)
]
row_few es n rows (suc (suc (suc zero))) shape up lt = omega (arith, short_before es 0 3 n up, tail_long es 0 n 3 _ shape.core.last)
row_few es n rows (suc (suc (suc (suc k)))) shape up lt =
    let i = suc (suc (suc (suc k))) in
    omega (arith, short_before es 0 i (n + 4) up, tail_long es 0 (n + 4) i _ (shape.extension i (omega arith) lt))

-- There is no row past the last.
no_entries : (es : List Entry) (rows i : ℕ) → All (λ e. e.row < rows) es → rows ≤ i → length (row_of es i) ≡ 0
no_entries [] rows i all past = refl
no_entries (e ∷ es) rows i all past = grind (
  arith,
  nat_tests,
  eqb-true,
  All-head (λ e. e.row < rows) e es all,
  no_entries es rows i (All-tail (λ e. e.row < rows) e es all) past,
)

row_most : (es : List Entry) (n rows i : ℕ) → (0 < length es → HasShape es 0 n rows) → Ascending 0 es
    → All (λ e. e.row < rows) es → length (row_of es i) ≤ n + 5
row_most [] n rows i shape up within = omega arith
row_most (e ∷ es) n rows i shape up within = elim (cases_lt i rows) [
  | inl lt ↦ row_few (e ∷ es) n rows i (shape (omega arith)) up lt
  | inr past ↦ omega (arith, no_entries (e ∷ es) rows i within past)
]

pub rows_short : (t : Entries) (g : Graph) (i : ℕ) → IsTable t → length (row_of (entries_in g t) i) ≤ 27
rows_short t g i table =
    let grid = table_grid t g table in
    let most : info_cols_of g ≤ 22 = grind arith in
    omega (
      arith,
      most,
      row_most (entries_in g t) (info_cols_of g) (rows_of g) i
          (λ some. table.shape g 0 some (omega arith)) grid.ascending grid.in_rows,
    )

pub place_column : (z t col v : ℕ) → 0 < z → one_at z t col v / z ≡ col
place_column z t col v pos = div-mul-add col z ((t + v % z) % z) (mod_below (t + v % z) z pos)

-- a position occurs in a row at most as often as its column
times_le_columns : (set z t p : ℕ) → 0 < z → (es : List Entry)
    → times_in p (map (λ e. one_at z t e.col (value_in set e)) es) ≤ count_by (λ e. e.col == p / z) es
times_le_columns set z t p pos es = search (rules, count_map, count_within, eq-eqb, place_column, eqb-true)

stands_below : (set z t cols p : ℕ) → 0 < z → (es : List Entry) → All (λ e. e.col < cols) es
    → stands p (map (λ e. one_at z t e.col (value_in set e)) es) ≡ true → p < cols * z
stands_below set z t cols p pos [] all h = absurd (false≢true h)
stands_below set z t cols p pos (e ∷ es) all h =
    grind (
      arith,
      nat_tests,
      or_cases,
      eqb-true,
      place_below z t e.col (value_in set e) cols pos (All-head (λ e. e.col < cols) e es all),
      stands_below set z t cols p pos es (All-tail (λ e. e.col < cols) e es all),
    )

pub checks_sound : (t : Entries) (g : Graph) (p : Numbers) → IsTable t → 0 < p.z → AreSound (block_checks t g p)
checks_sound t g p table pos =
    let grid = table_grid t g table in
    let es = entries_in g t in
    record {
      in_range = λ i l q li ll h.
          stands_below p.set p.z l (cols_of g) q pos (row_of es i)
          (All-filter (λ e. e.row == i) (λ e. e.col < cols_of g) es grid.in_cols) h;
      distinct = λ i l li ll q.
          grind (arith, times_le_columns p.set p.z l q pos (row_of es i), column_once es 0 i (q / p.z) grid.ascending);
    }
