-- From the shape of the parity columns, in all sets, back to the tests that decide acceptance.
use Rattle.nr_shifttable.proofs.Common.{◌≡◌, ℕ, ◌+◌, ◌<◌, ◌≤◌, ◌==◌, nat_le, true, List, [], ◌∷◌}
use Rattle.nr_shifttable.proofs.Common.{◌++◌, length, map, refl, sym, ap, ◌∙◌, arith, Option, Some, None, slice_index}
use Rattle.nr_shifttable.proofs.Common.{filter, list_all, All, All-head, All-tail, All-filter, filter_passes, eq-eqb, nat_tests}
use Rattle.nr_shifttable.proofs.Common.{Entry, PlacesAscend, zero_at, lone_zero, zero_pair, two_agree, three_agree, rows_agree}
use Rattle.nr_shifttable.proofs.Common.{first_column_ok, diagonals_ok, core_ok, own_column_ok, extension_ok, rows_present, row_of}
use Rattle.nr_shifttable.{proofs.Common.tail, proofs.Common.tail_of, proofs.Common.HasCoreRows, specs.Tails.HasCore}
use Rattle.nr_shifttable.proofs.BoundedLoopFacts.{each_below-tells}
use Rattle.nr_shifttable.proofs.ParityShapeFacts.{Diagonals, FirstColumn, at_column, cell, cell_at, row-cells, value_of, values_of}
use Rattle.std.proofs.lemmas.{Bool.and_from, Bool.leb-true, List.Recursion.and_from_places}

-- eight values, each 0
abbrev pub Eight : Entry → Type 0
Eight e = length e.values ≡ 8

zero_cell-at : (col : ℕ) (e : Entry) → Eight e → ((set : ℕ) → set < 8 → cell set e ≡ (col, 0))
    → zero_at col e ≡ true
zero_cell-at col e eight h =
    and_from (e.col == col) (list_all (λ v. v == 0) e.values)
    (eq-eqb e.col col (ap (λ (c : ℕ × ℕ). c.0) (h 0 (omega arith))))
    (and_from_places (list_all (λ v. v == 0)) (λ v. v == 0) refl (λ _ _. refl) e.values 0
    (λ k lt. eq-eqb (slice_index e.values k) 0 (ap (λ (c : ℕ × ℕ). c.1) (h k (omega arith)))))

lone_zero-from : (col : ℕ) (xs : List Entry) → All Eight xs
    → ((set : ℕ) → set < 8 → map (cell set) xs ≡ (col, 0) ∷ []) → lone_zero col xs ≡ true
lone_zero-from col [] eight h = let e = h 0 (omega arith) in cc e
lone_zero-from col (e ∷ []) eight h = zero_cell-at col e (All-head Eight e [] eight) (λ set lt. let d = h set lt in cc d)
lone_zero-from col (e ∷ f ∷ xs) eight h = let d = h 0 (omega arith) in cc d

zero_pair-from : (col next : ℕ) (xs : List Entry) → next ≡ col + 1 → All Eight xs
    → ((set : ℕ) → set < 8 → map (cell set) xs ≡ (col, 0) ∷ (next, 0) ∷ []) → zero_pair col xs ≡ true
zero_pair-from col next [] on eight h = let e = h 0 (omega arith) in cc e
zero_pair-from col next (e ∷ []) on eight h = let d = h 0 (omega arith) in cc d
zero_pair-from col next (e ∷ f ∷ []) on eight h =
    and_from (zero_at col e) (zero_at (col + 1) f)
    (zero_cell-at col e (All-head Eight e (f ∷ []) eight) (λ set lt. let d = h set lt in cc d))
    (zero_cell-at (col + 1) f (All-head Eight f [] (All-tail Eight e (f ∷ []) eight)) (λ set lt. let d = h set lt in cc (d, on)))
zero_pair-from col next (e ∷ f ∷ g ∷ xs) on eight h = let d = h 0 (omega arith) in cc d

-- what a row's cells from column n on say about column n
module _ (es : List Entry) (set n i : ℕ) (up : PlacesAscend es) where
  present : (a : ℕ) (rest : List (ℕ × ℕ)) → tail_of es set n i ≡ (n, a) ∷ rest
      → (value_of set (at_column es n i) ≡ Some a) × (tail_of es set (n + 1) i ≡ rest)
  present a rest h = by (value_of set (at_column es n i)) (sym (row-cells es set n i up) ∙ h)
    where
      clash : (xs : List Entry) → All (λ x. nat_le (n + 1) x.col ≡ true) xs → map (cell set) xs ≡ (n, a) ∷ rest → ⊥
      clash [] all e = cc e
      clash (x ∷ xs) all e =
          let here : cell set x ≡ (n, a) = cc e in
          let same = ap (λ (c : ℕ × ℕ). c.0) here in
          let past = leb-true (n + 1) x.col (All-head (λ y. nat_le (n + 1) y.col ≡ true) x xs all) in
          omega arith

      by : (o : Option ℕ) → cell_at n o ++ tail_of es set (n + 1) i ≡ (n, a) ∷ rest
          → (o ≡ Some a) × (tail_of es set (n + 1) i ≡ rest)
      by (Some v) e = (let here : ◌≡◌ {A = ℕ × ℕ} (n, v) (n, a) = cc e in ap (λ (c : ℕ × ℕ). Some c.1) here, cc e)
      by None e = absurd (clash (tail es i (n + 1)) (filter_passes (λ x. nat_le (n + 1) x.col) (row_of es i)) e)

  missing : (m v : ℕ) (rest : List (ℕ × ℕ)) → n < m → tail_of es set n i ≡ (m, v) ∷ rest
      → (value_of set (at_column es n i) ≡ None) × (tail_of es set (n + 1) i ≡ (m, v) ∷ rest)
  missing m v rest lt h = grind (arith, row-cells)

-- the first parity column and the diagonal, in one set
core-parts : (es : List Entry) (set n a b c : ℕ) → PlacesAscend es → HasCore es set n a b c
    → FirstColumn set (at_column es n 0) (at_column es n 1) (at_column es n 2) (at_column es n 3) × Diagonals es set n
core-parts es set n a b c up core = grind (arith, present, missing)

rows_agree-from : (a b c d : Option Entry) → ((set : ℕ) → set < 8 → FirstColumn set a b c d)
    → rows_agree (values_of a) (values_of b) (values_of c) (values_of d) ≡ true
unfolding rows_agree three_agree
rows_agree-from (Some a) (Some b) None (Some d) h =
    (each_below-tells 8 (λ k. two_agree (slice_index a.values k) (slice_index b.values k) (slice_index d.values k))).1
    (λ k lt. let f = h k lt in grind (arith, nat_tests))
rows_agree-from (Some a) None (Some c) (Some d) h =
    (each_below-tells 8 (λ k. two_agree (slice_index a.values k) (slice_index c.values k) (slice_index d.values k))).1
    (λ k lt. let f = h k lt in grind (arith, nat_tests))
rows_agree-from a b c d h = let f = h 0 (omega arith) in grind arith

tail-eight : (es : List Entry) → All Eight es → (i from : ℕ) → All Eight (tail es i from)
tail-eight es eight i from = All-filter (λ e. nat_le from e.col) Eight (row_of es i) (All-filter (λ e. e.row == i) Eight es eight)

-- the tests of the core rows, from their shape in all sets
module _ (es : List Entry) (n : ℕ) (up : PlacesAscend es) (eight : All Eight es)
    (core : (set : ℕ) → set < 8 → HasCoreRows es set n) where
  parts : (set : ℕ) → set < 8
      → FirstColumn set (at_column es n 0) (at_column es n 1) (at_column es n 2) (at_column es n 3) × Diagonals es set n
  parts set lt = let s = core set lt in core-parts es set n s.first s.middle s.last up s.core

  pub core_ok-from : core_ok n es ≡ true
  unfolding first_column_ok diagonals_ok
  core_ok-from =
      let a = lone_zero-from (n + 1) (tail es 0 (n + 1)) (tail-eight es eight 0 (n + 1)) (λ set lt. (parts set lt).1.row0) in
      let b = zero_pair-from (n + 1) (n + 2) (tail es 1 (n + 1)) (omega arith) (tail-eight es eight 1 (n + 1))
      (λ set lt. (parts set lt).1.row1) in
      let c = zero_pair-from (n + 2) (n + 3) (tail es 2 (n + 1)) (omega arith) (tail-eight es eight 2 (n + 1))
      (λ set lt. (parts set lt).1.row2) in
      let d = lone_zero-from (n + 3) (tail es 3 (n + 1)) (tail-eight es eight 3 (n + 1)) (λ set lt. (parts set lt).1.row3) in
      and_from (first_column_ok n es) (diagonals_ok n es)
      (rows_agree-from (at_column es n 0) (at_column es n 1) (at_column es n 2) (at_column es n 3) (λ set lt. (parts set lt).0))
      (and_from _ _ (and_from _ _ (and_from _ _ a b) c) d)

-- the test of the rows from 4 on that have an entry, from their shape in all sets
module _ (es : List Entry) (n rows : ℕ) (eight : All Eight es)
    (own : (set i : ℕ) → set < 8 → 4 ≤ i → i < rows → 0 < length (row_of es i)
    → tail_of es set (n + 4) i ≡ (n + i, 0) ∷ []) where
  own-from : (i : ℕ) → i < rows → own_column_ok n es i ≡ true
  own-from i lt = grind (arith, nat_tests, lone_zero-from, tail-eight)

  pub extension_ok-from : extension_ok n rows es ≡ true
  unfolding extension_ok
  extension_ok-from = (each_below-tells rows (own_column_ok n es)).1 own-from

-- the test that the rows from 4 on have an entry, if they do
pub rows_present-from : (es : List Entry) (rows : ℕ) → ((i : ℕ) → 4 ≤ i → i < rows → 0 < length (row_of es i))
    → rows_present rows es ≡ true
unfolding rows_present
rows_present-from es rows there = grind (arith, nat_tests, each_below-tells)

-- what a row's cells past a column say about the row
pub row-there : (set from : ℕ) (c : ℕ × ℕ) (xs : List Entry)
    → map (cell set) (filter (λ e. nat_le from e.col) xs) ≡ c ∷ [] → 0 < length xs
row-there set from c [] h = cc h
row-there set from c (x ∷ xs) h = omega arith
