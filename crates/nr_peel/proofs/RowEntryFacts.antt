-- The entries of a row of blocks: their columns, which rise, and the positions that they give its rows.
use Rattle.nr_peel.proofs.Common.{◌≡◌, ℕ, zero, suc, ◌+◌, ◌*◌, ◌/◌, ◌<◌, ◌≤◌, ◌==◌, List, []}
use Rattle.nr_peel.proofs.Common.{◌∷◌, length, get_or, arith, nat_tests, All-filter, cols_of, cases_lt, eqb-true, get_or-map}
use Rattle.nr_peel.proofs.Common.{length-map, Lifted, lifted_checks, Entry, IsTable, entries_in, row_of, value_in, Ascending}
use Rattle.nr_peel.proofs.{Common.one_at, Common.numbers, Common.row_position, TieFacts.row_columns}
use Rattle.nr_peel.proofs.TableGridFacts.{place_column, table_grid}
use Rattle.nr_shifttable.specs.inside.Orders as orders

abbrev pub entry_in : Lifted → ℕ → ℕ → Entry
entry_in l i n = get_or (row_of (entries_in l.plan.graph l.table.now) i) n (record { row = 0; col = 0; values = [] })

columns_from : (es : List Entry) (low i n : ℕ) (none : Entry) → Ascending low es → n < length (row_of es i)
    → low ≤ 68 * i + (get_or (row_of es i) n none).col
columns_from [] low i n none up below = absurd (omega (arith, below))
columns_from (e ∷ es) low i zero none up below =
    grind (arith, nat_tests, eqb-true, columns_from es (orders.entry_place e + 1) i zero none up.2)
columns_from (e ∷ es) low i (suc n) none up below = grind (
  arith,
  nat_tests,
  eqb-true,
  columns_from es (orders.entry_place e + 1) i n none up.2,
  columns_from es (orders.entry_place e + 1) i (suc n) none up.2,
)

columns_rise : (es : List Entry) (low i m n : ℕ) (none : Entry) → Ascending low es → m < n → n < length (row_of es i)
    → (get_or (row_of es i) m none).col < (get_or (row_of es i) n none).col
columns_rise [] low i m n none up lt below = absurd (omega (arith, below))
columns_rise (e ∷ es) low i m zero none up lt below = absurd (omega (arith, lt))
columns_rise (e ∷ es) low i zero (suc n) none up lt below = grind (
  arith,
  nat_tests,
  eqb-true,
  columns_rise es (orders.entry_place e + 1) i zero (suc n) none up.2,
  columns_from es (orders.entry_place e + 1) i n none up.2,
)
columns_rise (e ∷ es) low i (suc m) (suc n) none up lt below = grind (
  arith,
  nat_tests,
  columns_rise es (orders.entry_place e + 1) i m n none up.2,
  columns_rise es (orders.entry_place e + 1) i (suc m) (suc n) none up.2,
)

pub row_long : (l : Lifted) (i t : ℕ)
    → length ((lifted_checks l).row i t) ≡ length (row_of (entries_in l.plan.graph l.table.now) i)
row_long l i t =
    length-map (row_of (entries_in l.plan.graph l.table.now) i) (λ (x : Entry). one_at l.plan.z t x.col (value_in l.plan.set x))

pub position_is : (l : Lifted) (i n t : ℕ) → n < length (row_of (entries_in l.plan.graph l.table.now) i)
    → row_position (lifted_checks l) i t n ≡ one_at l.plan.z t (entry_in l i n).col (value_in l.plan.set (entry_in l i n))
position_is l i n t within = get_or-map (λ (x : Entry). one_at l.plan.z t x.col (value_in l.plan.set x))
    (row_of (entries_in l.plan.graph l.table.now) i) n (record { row = 0; col = 0; values = [] }) 0 within

pub column_at : (l : Lifted) (i n t : ℕ) → n < length ((lifted_checks l).row i t)
    → row_position (lifted_checks l) i t n / l.plan.z ≡ (entry_in l i n).col
column_at l i n t within = rw (position_is l i n t (omega (arith, row_long l i t)))
    (place_column l.plan.z t (entry_in l i n).col (value_in l.plan.set (entry_in l i n)) l.plan.sound.size_some)

pub column_own : (l : Lifted) (i m n : ℕ) → IsTable l.table.now → m < length (row_of (entries_in l.plan.graph l.table.now) i)
    → n < length (row_of (entries_in l.plan.graph l.table.now) i) → (entry_in l i m).col ≡ (entry_in l i n).col → m ≡ n
column_own l i m n table lm ln same =
    let es = entries_in l.plan.graph l.table.now in
    let none : Entry = record { row = 0; col = 0; values = [] } in
    let up = (table_grid l.table.now l.plan.graph table).ascending in
    grind (arith, cases_lt, columns_rise es 0 i m n none up, columns_rise es 0 i n m none up)

pub column_fits : (l : Lifted) (i n : ℕ) → IsTable l.table.now → n < length (row_of (entries_in l.plan.graph l.table.now) i)
    → ((entry_in l i n).col < 68) × (((entry_in l i n).col + 1) * l.plan.z ≤ (lifted_checks l).size)
column_fits l i n table within =
    let none : Entry = record { row = 0; col = 0; values = [] } in
    let fits = row_columns l.table.now l.plan.graph (numbers l.plan) table l.plan.sound.size_some i n none within in
    let below = All-filter (λ e. e.row == i) (λ e. e.col < cols_of l.plan.graph) (entries_in l.plan.graph l.table.now)
    (table_grid l.table.now l.plan.graph table).in_cols n none within in
    (grind arith, fits)
