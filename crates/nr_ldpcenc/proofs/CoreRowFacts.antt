-- The rows of an accepted base graph: the sum of the four core rows, and the last entry of each other row.
use Rattle.nr_ldpcenc.proofs.Common.{nat_tests, ◌≡◌, ℕ, ◌+◌, ◌-◌, ◌<◌, ◌≤◌, ◌==◌, nat_le, Bool, false}
use Rattle.nr_ldpcenc.proofs.Common.{inl, inr, List, [], ◌∷◌, map, refl, sym, ap, ◌∙◌, arith, Some, filter, cases_lt}
use Rattle.nr_ldpcenc.proofs.Common.{third_of, parity, one_at, row_at, Lifting, head_sum, core_sum, core_rotation, row_ending}
use Rattle.nr_ldpcenc.proofs.Common.{lt-ltb, le-ltb, lt-leb, le-leb, ◌⊕◌, Entry, row_of, value_in, tail_of, HasShape}
use Rattle.nr_ldpcenc.specs.{CoreRows.CoreRowsAddUp, inside.Solving.first_value_at, inside.Solving.either}
use Rattle.nr_ldpcenc.proofs.RowSumFacts.{row-parts, row-splits, sum_from, sum_from-cells}
use Rattle.std.{proofs.Common.zero, proofs.Common.suc, proofs.Common.◌⊎◌, specs.List.find}
use Rattle.std.specs.Prelude.{None, option_map, slice_index}
use Rattle.std.proofs.lemmas.Bool.{cases_eq, eq-eqb, ne_eqb}
use Rattle.nr_shifttable.specs.Tails.{HasMiddle, HasCore}

abbrev cell : ℕ → Entry → ℕ × ℕ
cell set e = (e.col, value_in set e)

-- the value at a column is found among the cells of a row from that column on
found : (set n : ℕ) (xs : List Entry)
    → option_map (λ values. slice_index values set) (option_map (λ e. e.values) (find (λ e. e.col == n) xs))
    ≡ option_map (λ (c : ℕ × ℕ). c.1)
    (find (λ (c : ℕ × ℕ). c.0 == n) (map (cell set) (filter (λ e. nat_le n e.col) xs)))
found set n [] = refl
found set n (x ∷ xs) = grind (arith, nat_tests, cases_eq, le-leb, eq-eqb, cases_lt, lt-leb, ne_eqb, found set n xs)

-- the value at a row of the first parity column, from the row's cells from it on
module _ (l : Lifting) where
  value-found : (i : ℕ) (cs : List (ℕ × ℕ)) → tail_of l.entries l.set l.info_cols i ≡ cs
      → first_value_at l i ≡ option_map (λ (c : ℕ × ℕ). c.1) (find (λ (c : ℕ × ℕ). c.0 == l.info_cols) cs)
  value-found i cs e = found l.set l.info_cols (row_of l.entries i)
      ∙ ap (λ l'. option_map (λ (c : ℕ × ℕ). c.1) (find (λ (c : ℕ × ℕ). c.0 == l.info_cols) l')) e

  value-some : (i v : ℕ) (cs : List (ℕ × ℕ)) → tail_of l.entries l.set l.info_cols i ≡ (l.info_cols, v) ∷ cs
      → first_value_at l i ≡ Some v
  value-some i v cs e = value-found i ((l.info_cols, v) ∷ cs) e ∙ rw (eq-eqb l.info_cols l.info_cols refl)

  value-none : (i a b : ℕ)
      → tail_of l.entries l.set l.info_cols i ≡ (l.info_cols + suc a, 0) ∷ (l.info_cols + suc b, 0) ∷ []
      → first_value_at l i ≡ None
  value-none i a b e = value-found i ((l.info_cols + suc a, 0) ∷ (l.info_cols + suc b, 0) ∷ []) e
      ∙ rw (ne_eqb (l.info_cols + suc a) l.info_cols (omega arith), ne_eqb (l.info_cols + suc b) l.info_cols (omega arith))

  either-middle : (b : ℕ) → HasMiddle l.entries l.set l.info_cols b → either (first_value_at l 1) (first_value_at l 2) ≡ b
  either-middle b (inl rows) = rw (value-some 1 b ((l.info_cols + 1, 0) ∷ (l.info_cols + 2, 0) ∷ []) rows.0) refl
  either-middle b (inr rows) =
      rw (value-none 1 0 1 rows.0, value-some 2 b ((l.info_cols + 2, 0) ∷ (l.info_cols + 3, 0) ∷ []) rows.1) refl

  core_rotation-is : (a b c : ℕ) → HasCore l.entries l.set l.info_cols a b c → core_rotation l ≡ third_of a b c
  unfolding core_rotation
  core_rotation-is a b c core =
      rw (
        value-some 0 a ((l.info_cols + 1, 0) ∷ []) core.first,
        value-some 3 c ((l.info_cols + 3, 0) ∷ []) core.last,
        either-middle b core.middle,
      ) refl

regroup : (g h i j p q r s : Bool)
    → ((g ⊕ p) ⊕ (h ⊕ q)) ⊕ ((i ⊕ r) ⊕ (j ⊕ s)) ≡ ((g ⊕ h) ⊕ (i ⊕ j)) ⊕ ((p ⊕ q) ⊕ (r ⊕ s))
regroup g h i j p q r s = grind arith

-- the sums of the four core rows
abbrev pub rows_sum : Lifting → (ℕ → Bool) → ℕ → Bool
rows_sum l w t = (parity w (row_at l.entries l.set l.z 0 t) ⊕ parity w (row_at l.entries l.set l.z 1 t))
    ⊕ (parity w (row_at l.entries l.set l.z 2 t) ⊕ parity w (row_at l.entries l.set l.z 3 t))

-- of three bits, two of which are equal, the third is the sum
third-sum : (f : ℕ → Bool) (a b c : ℕ) → (a ≡ b) ⊎ ((b ≡ c) ⊎ (a ≡ c))
    → (f a ⊕ f b) ⊕ f c ≡ f (third_of a b c)
third-sum f a b c two = grind (arith, nat_tests)

-- the diagonals' bits cancel
cancel : (a b c p q r : Bool)
    → ((a ⊕ (p ⊕ false)) ⊕ (b ⊕ (p ⊕ (q ⊕ false)))) ⊕ ((q ⊕ (r ⊕ false)) ⊕ (c ⊕ (r ⊕ false)))
    ≡ (a ⊕ b) ⊕ c
cancel a b c p q r = grind arith

cancel-other : (a b c p q r : Bool)
    → ((a ⊕ (p ⊕ false)) ⊕ (p ⊕ (q ⊕ false))) ⊕ ((b ⊕ (q ⊕ (r ⊕ false))) ⊕ (c ⊕ (r ⊕ false)))
    ≡ (a ⊕ b) ⊕ c
cancel-other a b c p q r = grind arith

pub core_rows-end : CoreRowsAddUp
core_rows-end es set n a b c core z t w =
    let f = λ (v : ℕ). w (one_at z t n v) in
    let zero_of = λ (k : ℕ). w (one_at z t (n + k) 0) in
    let third = third-sum f a b c core.two_agree in
    rw (
      sum_from-cells es set z w n 0 t _ core.first,
      sum_from-cells es set z w n 3 t _ core.last,
    ) (elim core.middle [
      | inl rows ↦
          rw (sum_from-cells es set z w n 1 t _ rows.0, sum_from-cells es set z w n 2 t _ rows.1)
          (cancel (f a) (f b) (f c) (zero_of 1) (zero_of 2) (zero_of 3) ∙ third)
      | inr rows ↦
          rw (sum_from-cells es set z w n 1 t _ rows.0, sum_from-cells es set z w n 2 t _ rows.1)
          (cancel-other (f a) (f b) (f c) (zero_of 1) (zero_of 2) (zero_of 3) ∙ third)
    ])

-- the four core rows add up to their cells before the first parity column, and that column, rotated
pub core_rows-add_up : (l : Lifting) (w : ℕ → Bool) (t a b c : ℕ) → HasCore l.entries l.set l.info_cols a b c
    → rows_sum l w t ≡ core_sum l w t ⊕ w (one_at l.z t l.info_cols (core_rotation l))
core_rows-add_up l w t a b c core =
    let n = l.info_cols in
    let head = λ (i : ℕ). head_sum l w n i t in
    let rest = λ (i : ℕ). sum_from l.entries l.set l.z w n i t in
    rw (row-parts l w n 0 t, row-parts l w n 1 t, row-parts l w n 2 t, row-parts l w n 3 t)
    (regroup (head 0) (head 1) (head 2) (head 3) (rest 0) (rest 1) (rest 2) (rest 3)
    ∙ ap (λ q. core_sum l w t ⊕ q) (core_rows-end l.entries l.set n a b c core l.z t w
    ∙ ap (λ v. w (one_at l.z t n v)) (sym (core_rotation-is l a b c core))))

-- the cells of a row from a later column on
later : (set n m : ℕ) (xs : List Entry) → n ≤ m
    → map (cell set) (filter (λ e. nat_le m e.col) xs)
    ≡ filter (λ (c : ℕ × ℕ). nat_le m c.0) (map (cell set) (filter (λ e. nat_le n e.col) xs))
later set n m [] le = refl
later set n m (x ∷ xs) le = grind (arith, nat_tests, cases_lt, lt-leb, later set n m xs le, le-leb)

tail-later : (es : List Entry) (set n m i : ℕ) (cs : List (ℕ × ℕ)) → n ≤ m → tail_of es set n i ≡ cs
    → tail_of es set m i ≡ filter (λ (c : ℕ × ℕ). nat_le m c.0) cs
tail-later es set n m i cs le e = later set n m (row_of es i) le ∙ ap (filter (λ (c : ℕ × ℕ). nat_le m c.0)) e

-- which row ends there
pub row_ending-low : (i : ℕ) → i < 3 → i - 1 ≡ row_ending i
row_ending-low i lt = rw (lt-ltb i 3 lt) refl

pub row_ending-high : (i : ℕ) → 3 ≤ i → i ≡ row_ending i
row_ending-high i le = rw (le-ltb i 3 le) refl

-- parity column n + i is the last one of its row, and has value 0 there
pub row-ends : (es : List Entry) (set n rows i : ℕ) → HasShape es set n rows → 1 ≤ i → i < rows
    → tail_of es set (n + i) (row_ending i) ≡ (n + i, 0) ∷ []
row-ends es set n rows zero shape some lt = absurd (omega (arith, some))
row-ends es set n rows (suc zero) shape some lt =
    tail-later es set n (n + 1) 0 ((n, shape.first) ∷ (n + 1, 0) ∷ []) (omega arith) shape.core.first
    ∙ rw (lt-leb (n + 1) n (omega arith), le-leb (n + 1) (n + 1) (omega arith))
row-ends es set n rows (suc (suc zero)) shape some lt = two shape.core.middle
  where
    two : HasMiddle es set n shape.middle → tail_of es set (n + 2) 1 ≡ (n + 2, 0) ∷ []
    two (inl rows) =
        tail-later es set n (n + 2) 1 ((n, shape.middle) ∷ (n + 1, 0) ∷ (n + 2, 0) ∷ []) (omega arith) rows.0
        ∙ rw (lt-leb (n + 2) n (omega arith), lt-leb (n + 2) (n + 1) (omega arith), le-leb (n + 2) (n + 2) (omega arith))
    two (inr rows) =
        tail-later es set n (n + 2) 1 ((n + 1, 0) ∷ (n + 2, 0) ∷ []) (omega arith) rows.0
        ∙ rw (lt-leb (n + 2) (n + 1) (omega arith), le-leb (n + 2) (n + 2) (omega arith))
row-ends es set n rows (suc (suc (suc zero))) shape some lt =
    tail-later es set n (n + 3) 3 ((n, shape.last) ∷ (n + 3, 0) ∷ []) (omega arith) shape.core.last
    ∙ rw (lt-leb (n + 3) n (omega arith), le-leb (n + 3) (n + 3) (omega arith))
row-ends es set n rows (suc (suc (suc (suc k)))) shape some lt =
    let i = suc (suc (suc (suc k))) in
    ap (tail_of es set (n + i)) (sym (row_ending-high i (omega arith)))
    ∙ tail-later es set (n + 4) (n + i) i ((n + i, 0) ∷ []) (omega arith) (shape.extension i (omega arith) lt)
    ∙ rw (le-leb (n + i) (n + i) (omega arith))

-- a row past the core has nothing between the core's columns and its own
pub heads-same : (l : Lifting) (w : ℕ → Bool) (rows i t : ℕ) → HasShape l.entries l.set l.info_cols rows → 4 ≤ i
    → i < rows → head_sum l w (l.info_cols + 4) i t ≡ head_sum l w (l.info_cols + i) (row_ending i) t
heads-same l w rows i t shape past lt =
    let n = l.info_cols in
    let is : i ≡ row_ending i = row_ending-high i (omega (arith, past)) in
    let cells : List (ℕ × ℕ) = (n + i, 0) ∷ [] in
    let core = row-splits l w (n + 4) i t cells (shape.extension i past lt) in
    let ends = row-ends l.entries l.set n rows i shape (omega (arith, past)) lt in
    let own = row-splits l w (n + i) (row_ending i) t cells ends in
    grind (arith, core, own, ap (λ r. parity w (row_at l.entries l.set l.z r t)) is)
