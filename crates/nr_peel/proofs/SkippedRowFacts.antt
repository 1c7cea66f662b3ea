-- Rows of an extension column of which nothing is given may be left out: they change no position before the extension columns.
use Rattle.nr_peel.proofs.Common.{place_below, ⊎_elim, nat_tests, zero, suc, rules, ◌≡◌, ◌≢◌, ℕ, ◌+◌, ◌*◌}
use Rattle.nr_peel.proofs.Common.{◌%◌, ◌<◌, ◌≤◌, ◌==◌, nat_le, nat_lt, ◌||◌, ◌&&◌, Bool, true, false, not}
use Rattle.nr_peel.proofs.Common.{List, [], ◌∷◌, sym, ap, ◌∙◌, arith, ◌/◌, ◌-◌, list_all, and_parts, count_by}
use Rattle.nr_peel.proofs.Common.{or_left, cases_eq, cases_lt, cases_Bool, inl, inr, div-mul-add, mod-mul-add, mul-le-mul_right}
use Rattle.nr_peel.proofs.Common.{Entry, row_of, HasShape, tail_of, row_at, mod-eq_of_lt, checks_of, closure, fixes, stands}
use Rattle.nr_peel.proofs.Common.{IsClosed, IsDistinctRow, Within, true_from_ne_false, entries_in, rows_of, cols_of, info_cols_of}
use Rattle.nr_peel.{proofs.Common.block_checks, specs.Slices.SkippedRowsAddNothing, proofs.TableGridFacts.checks_sound}
use Rattle.nr_peel.proofs.{ClosureFacts.closure_least, ClosureFacts.same_truth, CodewordFacts.stands_once}
use Rattle.nr_peel.proofs.NothingHeardFacts.{places_of, tail_same}
use Rattle.nr_peel.proofs.RowPositionFacts.{all_more, fixed_counted, other_in}

-- places of low columns are low
pub low_places : (z t m p : ℕ) → 0 < z → (xs : List (ℕ × ℕ)) → list_all (λ x. nat_lt x.0 m) xs ≡ true
    → stands p (places_of z t xs) ≡ true → p < m * z
low_places z t m p pos [] low h = absurd (grind (arith, nat_tests))
low_places z t m p pos (x ∷ xs) low h =
    grind (arith, nat_tests, low_places z t m p pos xs, place_below z t x.0 x.1 m pos)

module _ (es : List Entry) (set z n rows : ℕ) (pos : 0 < z) (K skip : ℕ → Bool) where
  -- the row whose own position this is, in an extension column, has only positions of K beside it
  abbrev lone : ℕ → Bool
  lone q = list_all (λ r. (r == q) || K r) (row_at es set z (q / z - n) (q % z))

  abbrev reach : ℕ → Bool
  reach q = K q || (nat_le ((n + 4) * z) q && (skip (q / z - n) && lone q))

  -- a row of the core has no position from the extension columns on
  core_low : (i t r : ℕ) (xs : List (ℕ × ℕ)) → tail_of es set n i ≡ xs → list_all (λ x. nat_lt x.0 (n + 4)) xs
      ≡ true
      → stands r (row_at es set z i t) ≡ true → r < (n + 4) * z
  core_low i t r xs is low h = elim (cases_lt r ((n + 4) * z)) [
    | inl lt ↦ lt
    | inr past ↦
        let more : n * z ≤ (n + 4) * z = mul-le-mul_right z (omega arith) in
        low_places z t (n + 4) r pos xs low
        (ap (λ l. stands r (places_of z t l)) (sym is) ∙ tail_same set z t n r pos (omega (arith, past, more)) (row_of es i)
        ∙ h)
  ]

  -- a row from 4 on has of those positions its own alone
  own_only : (i t r : ℕ) → t < z → tail_of es set (n + 4) i ≡ (n + i, 0) ∷ [] → (n + 4) * z ≤ r
      → stands r (row_at es set z i t) ≡ ((n + i) * z + t == r)
  own_only i t r lt is past =
      let own : (t + 0 % z) % z ≡ t = grind (arith, mod-eq_of_lt) in
      sym (tail_same set z t (n + 4) r pos past (row_of es i)) ∙ ap (λ l. stands r (places_of z t l)) is
      ∙ grind (arith, nat_tests, own)

  module _ (shape : HasShape es set n rows) (late : (i : ℕ) → skip i ≡ true → 4 ≤ i) where
    -- a position of a row that isn't left out is no own position of one that is
    kept_row : (i t r : ℕ) → i < rows → t < z → skip i ≡ false → stands r (row_at es set z i t) ≡ true
        → (n + 4) * z ≤ r → skip (r / z - n) ≡ false
    kept_row zero t r li lt kept h past = absurd
        (omega (arith, past, core_low 0 t r _ shape.core.first (grind (arith, nat_tests)) h))
    kept_row (suc zero) t r li lt kept h past = absurd (⊎_elim
        (λ m. omega (arith, past, core_low 1 t r _ m.0 (grind (arith, nat_tests)) h))
        (λ m. omega (arith, past, core_low 1 t r _ m.0 (grind (arith, nat_tests)) h)) shape.core.middle)
    kept_row (suc (suc zero)) t r li lt kept h past = absurd (⊎_elim
        (λ m. omega (arith, past, core_low 2 t r _ m.1 (grind (arith, nat_tests)) h))
        (λ m. omega (arith, past, core_low 2 t r _ m.1 (grind (arith, nat_tests)) h)) shape.core.middle)
    kept_row (suc (suc (suc zero))) t r li lt kept h past =
        absurd (omega (arith, past, core_low 3 t r _ shape.core.last (grind (arith, nat_tests)) h))
    kept_row (suc (suc (suc (suc i)))) t r li lt kept h past =
        let k = suc (suc (suc (suc i))) in
        let is = own_only k t r lt (shape.extension k (omega arith) li) past in
        grind (arith, nat_tests, div-mul-add (n + k) z t lt)

    module _
        (distinct : (i t : ℕ) → i < rows → t < z → IsDistinctRow (row_at es set z i t))
        (several : (i t : ℕ) → i < rows → t < z → skip i ≡ false
        → count_by (λ p. not (K p)) (row_at es set z i t) ≢ 1)
        (unheard : (i t : ℕ) → i < rows → t < z → skip i ≡ true → K ((n + i) * z + t) ≡ false) where
      -- a row that isn't left out fixes nothing outside K
      kept_fixes : (i t p : ℕ) → i < rows → t < z → skip i ≡ false → fixes reach (row_at es set z i t) p ≡ true
          → reach p ≡ true
      kept_fixes i t p li lt kept f =
          let row = row_at es set z i t in
          let parts = and_parts (stands p row) (list_all (λ r. (r == p) || reach r) row) f in
          let plain : (r : ℕ) → stands r row ≡ true → reach r ≡ true → K r ≡ true = λ r s h.
          grind (arith, nat_tests, kept_row i t r li lt kept s) in
          let others : list_all (λ r. (r == p) || K r) row ≡ true =
          all_more (λ r. (r == p) || reach r) (λ r. (r == p) || K r) row (λ r s h. grind (arith, plain r s)) parts.1 in
          let own : fixes K row p ≡ true = grind (arith, parts, others) in
          let there : K p ≡ true = true_from_ne_false (K p) (λ e. several i t li lt kept (fixed_counted K p row e own
          ∙ stands_once p row (distinct i t li lt) parts.0)) in
          grind (arith, there)

      -- nor does a row that is left out, beside its own position
      skipped_fixes : (i t p : ℕ) → i < rows → t < z → skip i ≡ true → fixes reach (row_at es set z i t) p ≡ true
          → reach p ≡ true
      skipped_fixes i t p li lt out f =
          let row = row_at es set z i t in
          let x = (n + i) * z + t in
          let parts = and_parts (stands p row) (list_all (λ r. (r == p) || reach r) row) f in
          let far : (n + 4) * z ≤ x = let more : (n + 4) * z ≤ (n + i) * z = mul-le-mul_right z
          (omega (arith, late i out)) in omega arith in
          let is = λ (r : ℕ) (past : (n + 4) * z ≤ r). own_only i t r lt (shape.extension i (late i out) li) past in
          let lone_is : lone x ≡ list_all (λ r. (r == x) || K r) row = search (rules, div-mul-add, mod-mul-add) in
          let plain : (r : ℕ) → stands r row ≡ true → r ≢ x → reach r ≡ true → K r ≡ true = λ r s ne h.
          grind (arith, nat_tests, is r) in
          let all = λ (e : p ≡ x). all_more (λ r. (r == p) || reach r) (λ r. (r == x) || K r) row
          (λ r s h. grind (arith, nat_tests, cases_eq r x, plain r s)) parts.1 in
          let met = other_in reach row p x parts.1 (grind (arith, nat_tests, is x far)) in
          let at : x / z - n ≡ i = grind (arith, div-mul-add (n + i) z t lt) in
          grind (arith, nat_tests, cases_eq p x, all, met, other_in K row x p, unheard i t li lt out, parts, at, far, lone_is)

      reach_closed : (cols : ℕ) → IsClosed (checks_of es set z rows cols) reach
      reach_closed cols i t p li lt f = elim (cases_Bool (skip i)) [
        | inl out ↦ skipped_fixes i t p li lt out f
        | inr kept ↦ kept_fixes i t p li lt kept f
      ]

      -- so K has every position of the closure that is before the extension columns
      pub skipped_low : (cols : ℕ) (S : ℕ → Bool) → Within S K → (p : ℕ) → p < (n + 4) * z
          → closure (checks_of es set z rows cols) S p ≡ true → K p ≡ true
      skipped_low cols S within p low h =
          let there = closure_least (checks_of es set z rows cols) S reach (λ q s. or_left _ _ (within q s))
          (reach_closed cols) p h in
          grind (arith, nat_tests, there)

pub skipped_rows : SkippedRowsAddNothing
skipped_rows t g p S K skip table some pos small late several unheard up inside q low =
    let c = block_checks t g p in
    let sound = checks_sound t g p table pos in
    same_truth (K q) (closure c S q) (inside q)
    (skipped_low (entries_in g t) p.set p.z (info_cols_of g) (rows_of g) pos K skip (table.shape g p.set some small) late
    sound.distinct several unheard (cols_of g) S up q low)
