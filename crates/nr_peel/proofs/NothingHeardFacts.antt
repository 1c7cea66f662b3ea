-- If nothing is received no position below K' is fixed. The fillers are a closed set, together with the extension
-- positions whose row has only fillers beside them.
use Rattle.nr_peel.proofs.Common.{place_below, ⊎_elim, nat_tests, positions, zero, suc, rules, ◌≡◌, ℕ, ◌+◌, ◌*◌}
use Rattle.nr_peel.proofs.Common.{◌%◌, ◌<◌, ◌≤◌, ◌==◌, nat_le, ◌||◌, ◌&&◌, Bool, true, false, List, []}
use Rattle.nr_peel.proofs.Common.{◌∷◌, length, map, refl, sym, ap, ◌∙◌, arith, ◌/◌, ◌-◌, list_all, filter}
use Rattle.nr_peel.proofs.Common.{and_parts, or_left, cases_eq, div-mul-add, mod-mul-add, mod_below, mul-le-mul_right, Graph}
use Rattle.nr_peel.proofs.Common.{rows_of, info_cols_of, Numbers, Entry, Entries, IsTable, entries_in, row_of, HasShape, tail_of}
use Rattle.nr_peel.proofs.Common.{value_in, block_checks, checks_of, cols_of, one_at, row_at, mod-eq_of_lt, filler, closure, fixes}
use Rattle.nr_peel.proofs.Common.{stands, IsClosed, bit, IsStarted, Peeling, fillers, left_of, set_below}
use Rattle.nr_peel.proofs.{ClosureFacts.closure_least, ClosureFacts.closure_monotone, FillerFacts.fillers_within}
use Rattle.nr_peel.proofs.{RowPositionFacts.all_more, RowPositionFacts.other_in, LeftPositionFacts.all_left}
use Rattle.nr_segment.specs.Plan.{IsSound}
use Rattle.nr_shifttable.specs.Accepted.{has_graph}

-- the places of a row's tail
abbrev pub places_of : ℕ → ℕ → List (ℕ × ℕ) → List ℕ
places_of z t xs = map (λ x. one_at z t x.0 x.1) xs

abbrev pub pairs : ℕ → List Entry → List (ℕ × ℕ)
pairs set es = map (λ e. (e.col, value_in set e)) es

-- a position from some column on is in a row if it is in the row's tail
pub tail_same : (set z t from p : ℕ) → 0 < z → from * z ≤ p → (es : List Entry)
    → stands p (places_of z t (pairs set (filter (λ e. nat_le from e.col) es))) ≡ stands p (positions set z t es)
tail_same set z t from p pos past [] = refl
tail_same set z t from p pos past (e ∷ es) =
    grind (arith, nat_tests, tail_same set z t from p pos past es, place_below z t e.col (value_in set e) from pos, past)

module _ (es : List Entry) (set z n rows kdash : ℕ) (pos : 0 < z) where
  abbrev fill : ℕ → Bool
  fill = filler kdash (n * z)

  -- the row whose own position this is, in an extension column, has only fillers beside it
  abbrev lone : ℕ → Bool
  lone q = list_all (λ r. (r == q) || fill r) (row_at es set z (q / z - n) (q % z))

  abbrev reach : ℕ → Bool
  reach q = fill q || (nat_le ((n + 4) * z) q && lone q)

  -- a row with two positions in the first four parity columns fixes nothing
  two_out : {x y : ℕ × ℕ} {xs : List (ℕ × ℕ)} (i t p : ℕ) → t < z → tail_of es set n i ≡ x ∷ y ∷ xs
      → (n ≤ x.0) × (x.0 < y.0) × (y.0 < n + 4) → fixes reach (row_at es set z i t) p ≡ true → ⊥
  two_out {x} {y} {xs} i t p lt is (after, before, within) f =
      let row = row_at es set z i t in
      let a = one_at z t x.0 x.1 in
      let b = one_at z t y.0 y.1 in
      let all = (and_parts (stands p row) (list_all (λ r. (r == p) || reach r) row) f).1 in
      let low : n * z ≤ a = omega (arith, mul-le-mul_right z after) in
      let apart : a < b = omega (arith, mod_below (t + x.1 % z) z pos, mul-le-mul_right z before) in
      let high : b < (n + 4) * z = omega (arith, mod_below (t + y.1 % z) z pos, mul-le-mul_right z within) in
      let there = λ (q : ℕ) (past : n * z ≤ q). sym (tail_same set z t n q pos past (row_of es i))
      ∙ ap (λ l. stands q (places_of z t l)) is in
      grind (
        arith,
        nat_tests,
        other_in reach row p a all (grind arith),
        other_in reach row p b all (grind (arith, there b (omega arith))),
      )

  -- a row with its own column
  own_row : (i t p : ℕ) → t < z → 4 ≤ i → tail_of es set (n + 4) i ≡ (n + i, 0) ∷ []
      → fixes reach (row_at es set z i t) p ≡ true → reach p ≡ true
  own_row i t p lt late shape f =
      let row = row_at es set z i t in
      let x = (n + i) * z + t in
      let parts = and_parts (stands p row) (list_all (λ r. (r == p) || reach r) row) f in
      let far : (n + 4) * z ≤ x = let more : (n + 4) * z ≤ (n + i) * z = mul-le-mul_right z (omega arith) in omega arith in
      let own : (t + 0 % z) % z ≡ t = grind (arith, mod-eq_of_lt) in
      -- of the positions from the extension columns on it has only its own
      let there = λ (q : ℕ) (past : (n + 4) * z ≤ q).
      rw own at (ap (λ l. stands q (places_of z t l)) (sym shape) ∙ tail_same set z t (n + 4) q pos past (row_of es i)) in
      let lone_is : lone x ≡ list_all (λ r. (r == x) || fill r) row = search (rules, div-mul-add, mod-mul-add) in
      let all =
      λ (e : p ≡ x). all_more (λ r. (r == p) || reach r) (λ r. (r == x) || fill r) row (λ r s h. grind arith) parts.1 in
      let met = other_in reach row p x parts.1 (grind (arith, nat_tests)) in
      grind (arith, cases_eq p x, all, met, other_in fill row x p)

  reach_closed : (cols : ℕ) → HasShape es set n rows → IsClosed (checks_of es set z rows cols) reach
  reach_closed cols shape zero t p li lt f = absurd (two_out 0 t p lt shape.core.first (omega arith) f)
  reach_closed cols shape (suc zero) t p li lt f =
      absurd (⊎_elim (λ m. two_out 1 t p lt m.0 (omega arith) f) (λ m. two_out 1 t p lt m.0 (omega arith) f) shape.core.middle)
  reach_closed cols shape (suc (suc zero)) t p li lt f =
      absurd (⊎_elim (λ m. two_out 2 t p lt m.1 (omega arith) f) (λ m. two_out 2 t p lt m.1 (omega arith) f) shape.core.middle)
  reach_closed cols shape (suc (suc (suc zero))) t p li lt f = absurd (two_out 3 t p lt shape.core.last (omega arith) f)
  reach_closed cols shape (suc (suc (suc (suc i)))) t p li lt f = let late : 4 ≤ suc (suc (suc (suc i))) = omega arith in
      own_row _ t p lt late (shape.extension _ late li) f

pub nothing_fixed : (t : Entries) (g : Graph) (b : ℕ) (p : Numbers) (q : ℕ) → IsTable t
    → 0 < length (entries_in g t) → IsSound g b p → p.set < 8
    → q < p.kdash → closure (block_checks t g p) (filler p.kdash p.k) q ≡ false
nothing_fixed t g b p q table some plan small low =
    let es = entries_in g t in
    let n = info_cols_of g in
    let k_is : p.k ≡ n * p.z = plan.columns in
    let closed = reach_closed es p.set p.z n (rows_of g) p.kdash plan.size_some (cols_of g) (table.shape g p.set some small) in
    let least = closure_least (block_checks t g p) (filler p.kdash p.k) (reach es p.set p.z n (rows_of g) p.kdash plan.size_some)
    (λ r h. or_left _ _ (rw k_is at h)) closed q in
    grind (arith, nat_tests)

-- ---- a peeler that is given only the fillers: no position below K' is known, and K' are left

pub pending_left : (t : Entries) (g : Graph) (n : Numbers) (s : Peeling) (b : ℕ) → IsTable t → has_graph g t ≡ true
    → IsSound g b n → n.k ≤ cols_of g * n.z → IsStarted t g n s
    → left_of n.kdash s.known ≡ n.kdash
pending_left t g n s b table has plan fits started =
    let c = block_checks t g n in
    let given : s.given ≡ fillers c n = rw (started.graph, started.numbers) at started.given in
    let fixed : (p : ℕ) → bit s.known p ≡ true → closure c (bit s.given) p ≡ true =
    rw (started.table, started.graph, started.numbers) at started.peeled.within in
    let long : length s.known ≡ cols_of g * n.z = rw (started.graph, started.numbers) at started.peeled.known_long in
    let more = closure_monotone c (bit s.given) (filler n.kdash n.k) (rw given (fillers_within c n)) in
    all_left n.kdash s.known (omega (arith, long, fits, plan.held)) (λ p lt. grind (
      arith,
      fixed p,
      more p,
      nothing_fixed t g b n p table (grind (arith, nat_tests)) plan (set_below n.z n.set plan.set_is) lt,
    ))
