-- The entries of a row are between its start and that of the next row, and so are those of a column.
use Rattle.nr_shifttable.proofs.Common.{nat_tests, ◌≡◌, ℕ, ◌+◌, ◌-◌, ◌<◌, ◌≤◌, ◌==◌, List, [], length}
use Rattle.nr_shifttable.proofs.Common.{get_or, set, take, drop, sym, subst, ⊎_elim, below_more, get_or-set_other}
use Rattle.nr_shifttable.proofs.Common.{get_or-set_same, arith, slice_index, filter, All, AllWithin, IsNonDecreasingBy}
use Rattle.nr_shifttable.proofs.Common.{get_or_default, cases_lt, eq-eqb, le-ltb, lt-ltb, ltb-false, ltb-true, ne_eqb, Entry}
use Rattle.nr_shifttable.proofs.Common.{row_of, column_of, Ascending, IsStart}
use Rattle.nr_shifttable.proofs.{EntryOrderFacts.ascending-narrow, SliceFacts.filter_none, SliceFacts.filter_within}

-- all before a start are below the key, and none from it on is
module _ (key : Entry → ℕ) (es : List Entry) (i start : ℕ) (is : IsStart key es i start) where
  below_start : AllWithin (λ e. key e < i) es 0 start
  below_start k d a b = ltb-true (key (get_or es k d)) i (is.point.0 k d a b)

  pub from_start : AllWithin (λ e. i ≤ key e) es start (length es)
  from_start k d a b = ltb-false (key (get_or es k d)) i (is.point.1 k d a b)

  -- what is before the start of a key is below the next key
  pub start-before : AllWithin (λ e. key e < i + 1) es 0 start
  start-before k d a b = let lt = below_start k d a b in omega arith

-- the starts of a key and of the next among the starts of all
module _ (key : Entry → ℕ) (es : List Entry) (starts : List ℕ) (n i start stop : ℕ)
    (are : (k : ℕ) → k < n → IsStart key es k (slice_index starts k)) (inside : i + 1 < n)
    (start_is : start ≡ slice_index starts i) (stop_is : stop ≡ slice_index starts (i + 1)) where
  low : IsStart key es i start
  low = subst (IsStart key es i) (sym start_is) (are i (omega arith))

  high : IsStart key es (i + 1) stop
  high = subst (IsStart key es (i + 1)) (sym stop_is) (are (i + 1) inside)

  pub starts-order : start ≤ stop
  starts-order = ⊎_elim
      (λ crossed.
      let none : Entry = record { row = 0; col = 0; values = [] } in
      let before = below_start key es i start low stop none (omega arith) crossed in
      let past = from_start key es (i + 1) stop high stop none (omega arith) (let room = low.within in omega arith) in
      absurd (omega arith))
      (λ le. le)
      (cases_lt stop start)

  pub starts-slice : take (stop - start) (drop start es) ≡ filter (λ e. key e == i) es
  starts-slice = grind (arith, nat_tests, filter_within, starts-order, high, below_start, low, ne_eqb, from_start, eq-eqb)

-- one more start
pub starts-more : (key : Entry → ℕ) (es : List Entry) (starts : List ℕ) (i start : ℕ) → i < length starts
    → IsStart key es i start
    → ((k : ℕ) → k < i → IsStart key es k (slice_index starts k)) → (k : ℕ) → k < i + 1
    → IsStart key es k (slice_index (set starts i start) k)
starts-more key es starts i start room here before = grind (arith, below_more, get_or-set_other, get_or-set_same)

-- a start is found if all before it are below the key, and the entry at it is not
pub start-from : (key : Entry → ℕ) (es : List Entry) (i start : ℕ) → start ≤ length es → IsNonDecreasingBy key es
    → AllWithin (λ e. key e < i) es 0 start → (d : Entry) → (start < length es → i ≤ key (get_or es start d))
    → IsStart key es i start
start-from key es i start within up before e here = record {
  within = within;
  point = (
    (λ k d a b. lt-ltb (key (get_or es k d)) i (before k d a b)),
    (λ k d a b.
        let room : start < length es = omega arith in
        let first : i ≤ key (get_or es start d) = subst (λ x. i ≤ key x) (get_or_default es start e d room) (here room) in
        let rise = up start k d a b in
        le-ltb (key (get_or es k d)) i (omega arith)),
  );
}

-- past the last row or column there is no entry
pub no_row : (es : List Entry) (i : ℕ) → 46 ≤ i → All (λ e. e.row < 46) es → row_of es i ≡ []
no_row es i past short =
    filter_none (λ e. e.row == i) es (λ k d lt. let below = short k d lt in ne_eqb (get_or es k d).row i (λ e. omega arith))

pub no_column : (es : List Entry) (j : ℕ) → 68 ≤ j → Ascending 0 es → column_of es j ≡ []
no_column es j past up = filter_none (λ e. e.col == j) es
    (λ k d lt. let below = ascending-narrow 0 es up k d lt in ne_eqb (get_or es k d).col j (λ e. omega arith))
