-- Sets of positions side by side: what a row adds to them.
use Rattle.nr_peel.proofs.Common.{◌≡◌, length, nat_tests, get_or-map, length-map, length-set, lacks_one, ◌≤◌, any_below}
use Rattle.nr_peel.proofs.Common.{◌+◌, ◌^◌, ◌<◌, cases_eq, bit_and, take_all, ◌-◌, value_in, unrotate, cases_lt}
use Rattle.nr_peel.proofs.Common.{◌==◌, ◌||◌, ◌&&◌, count_by, ap, ◌∙◌, mod_below, positions, some_lone, is_in_run}
use Rattle.nr_peel.proofs.Common.{nat_lt, get_or-set_other, get_or-set_same, bit_at-trailing_zeros, trailing_zeros, some_lone_below}
use Rattle.nr_peel.proofs.Common.{get_or, arith, bit_at, bit_or, stands, false, ◌*◌, ◌%◌, ◌/◌, Entry, one_at, bit_not}
use Rattle.nr_peel.proofs.Common.{list_any_more, slice_index, bit_at-zero, mod-eq_of_lt, div-mul-add, div-add-mod', range_with_len}
use Rattle.nr_peel.proofs.Common.{[], ◌∷◌, Lifted, row_in}
use Rattle.std.specs.Prelude.{None, slice_get}
use Rattle.nr_peel.proofs.Common.{ℕ, Bool, not, List, set, take, w64, zero, suc, refl, sym, cond, inl, inr, slice}
use Rattle.nr_peel.proofs.{ClosureFacts.passes_any_below, UnknownFacts.counted_marked, RowTallyFacts.any_below-same}
use Rattle.nr_peel.proofs.RowPlaceFacts.{mod_high, place-eqb}
use Rattle.std.proofs.lemmas.Nat.{le_or_l, le_or_r}
use Rattle.nr_bitvec.proofs.BitFacts.{and-one, bit_at_not-one, or-one}

-- at the end of a row its sets are those outside which it has one position
pub lone_row : (known ps : List ℕ) (n j : ℕ) (a b d : Bool) → length ps ≤ n
    → a ≡ nat_lt 0 (count_by (λ p. not (slice known j p)) (take n ps))
    → b ≡ nat_lt 1 (count_by (λ p. not (slice known j p)) (take n ps))
    → d ≡ (a && not b) → d ≡ lacks_one (slice known j) ps
lone_row known ps n j a b d end one several is = grind (arith, nat_tests, take_all)

-- ---- runs of rows whose positions are one after another

pub ruleset bits = (or-one, and-one, bit_at_not-one, get_or-set_same, get_or-set_other)

-- one more row of a run is begun
pub run_begun : (some old known : List ℕ) (at from k r q : ℕ) → r ≡ at + k → q ≡ from + k → r < length some
    → slice_index known q < 2 ^ 64
    → ((j t : ℕ) → j < 64 → slice some j t ≡ ((is_in_run at k t && not (slice known j (from + (t - at))))
    || (not (is_in_run at k t) && slice old j t)))
    → (j t : ℕ) → j < 64 → slice (set some r (bit_not w64 (slice_index known q))) j t
    ≡ ((is_in_run at (k + 1) t && not (slice known j (from + (t - at)))) || (not (is_in_run at (k + 1) t) && slice old j t))
run_begun some old known at from k r q here there inside fits so j t short =
    grind (arith, nat_tests, cases_eq t r, bits, so j t short)

pub run_none : (more before : List ℕ) (at k r : ℕ) → r ≡ at + k → r < length more
    → ((j t : ℕ) → j < 64 → slice more j t ≡ (not (is_in_run at k t) && slice before j t))
    → (j t : ℕ) → j < 64 → slice (set more r 0) j t ≡ (not (is_in_run at (k + 1) t) && slice before j t)
run_none more before at k r here inside so j t short =
    grind (arith, nat_tests, cases_eq t r, bits, bit_at-zero, so j t short)

-- one more row of a run is tallied
pub run_some : (some old known : List ℕ) (at from k r q : ℕ) → r ≡ at + k → q ≡ from + k → r < length some
    → slice_index known q < 2 ^ 64
    → ((j t : ℕ) → j < 64 → slice some j t
    ≡ (slice old j t || (is_in_run at k t && not (slice known j (from + (t - at))))))
    → (j t : ℕ) → j < 64 → slice (set some r (bit_or (slice_index some r) (bit_not w64 (slice_index known q)))) j t
    ≡ (slice old j t || (is_in_run at (k + 1) t && not (slice known j (from + (t - at)))))
run_some some old known at from k r q here there inside fits so j t short =
    grind (arith, nat_tests, cases_eq t r, bits, so j t short)

pub run_more : (some more old before known : List ℕ) (at from k r q : ℕ) → r ≡ at + k → q ≡ from + k → r < length more
    → slice_index known q < 2 ^ 64
    → ((j t : ℕ) → j < 64 → slice some j t
    ≡ (slice old j t || (is_in_run at k t && not (slice known j (from + (t - at))))))
    → ((j t : ℕ) → j < 64 → slice more j t
    ≡ (slice before j t || (is_in_run at k t && (slice old j t && not (slice known j (from + (t - at)))))))
    → (j t : ℕ) → j < 64
    → slice (set more r (bit_or (slice_index more r) (bit_and (slice_index some r) (bit_not w64 (slice_index known q))))) j t
    ≡ (slice before j t || (is_in_run at (k + 1) t && (slice old j t && not (slice known j (from + (t - at))))))
run_more some more old before known at from k r q here there inside fits so also j t short =
    grind (arith, nat_tests, cases_eq t r, bits, so j t short, also j t short)

-- one more position of a run has its row's sets
pub run_filled : (known old sets : List ℕ) (at from k r q : ℕ) → r ≡ at + k → q ≡ from + k → q < length known
    → ((j p : ℕ) → j < 64 → slice known j p ≡ (slice old j p || (is_in_run from k p && slice sets j (at + (p - from)))))
    → (j p : ℕ) → j < 64 → slice (set known q (bit_or (slice_index known q) (slice_index sets r))) j p
    ≡ (slice old j p || (is_in_run from (k + 1) p && slice sets j (at + (p - from))))
run_filled known old sets at from k r q here there inside so j p short =
    grind (arith, nat_tests, cases_eq p q, bits, so j p short)

pub ruleset run_rules = (run_begun, run_none, run_some, run_more, run_filled, length-set)

-- ---- a row keeps the sets outside which it has one position and no more

or_zero : (a b : ℕ) → not (bit_or a b == 0) ≡ (not (a == 0) || not (b == 0))
or_zero zero zero = refl
or_zero zero (suc b) = grind (arith, nat_tests, le_or_r zero (suc b))
or_zero (suc a) b = grind (arith, nat_tests, le_or_l (suc a) b)

module _ (some old more : List ℕ) (t w : ℕ) (inside : t < length some)
    (w_is : w ≡ bit_and (slice_index some t) (bit_not w64 (slice_index more t))) (fits : slice_index more t < 2 ^ 64)
    (later : (u : ℕ) → t ≤ u → slice_index some u ≡ slice_index old u) where
  pub settled_lone : ((j u : ℕ) → j < 64 → u < t → slice some j u ≡ (slice old j u && not (slice more j u)))
      → (j u : ℕ) → j < 64 → u < t + 1 → slice (set some t w) j u ≡ (slice old j u && not (slice more j u))
  settled_lone so j u short lt = elim (cases_eq u t) [
    | inl e ↦ rw e (ap (λ x. bit_at x j == 1) (get_or-set_same some t w 0 inside ∙ w_is) ∙ grind (arith, bits, later t))
    | inr ne ↦ ap (λ x. bit_at x j == 1) (get_or-set_other some t u w 0 ne) ∙ so j u short (omega (arith, lt, ne))
  ]

  pub settled_later : (u : ℕ) → t + 1 ≤ u → slice_index (set some t w) u ≡ slice_index old u
  settled_later u le = get_or-set_other some t u w 0 (omega (arith, le)) ∙ later u (omega (arith, le))

  pub settled_any : (any : ℕ) → not (any == 0) ≡ any_below (λ u. not (slice_index some u == 0)) t
      → not (bit_or any (slice_index (set some t w) t) == 0) ≡ any_below (λ u. not (slice_index (set some t w) u == 0)) (t + 1)
  settled_any any is =
      let same = any_below-same (λ u. not (slice_index (set some t w) u == 0)) (λ u. not (slice_index some u == 0)) t
      (λ u lt. ap (λ x. not (x == 0)) (get_or-set_other some t u w 0 (omega (arith, lt)))) in
      or_zero any (slice_index (set some t w) t) ∙ grind (arith, is, same)

-- ---- a column of blocks is two runs

module _ (z r from t : ℕ) (small : r < z) (lane : t < z) where
  early : t < z - r → from + r + (t - 0) ≡ from + (t + r) % z
  early lt = omega (arith, mod-eq_of_lt {n = t + r} {m = z} (omega (arith, lt)))

  late : z - r ≤ t → from + (t - (z - r)) ≡ from + (t + r) % z
  late le = omega (arith, mod_high (t + r) z (omega (arith, le)) (omega (arith, small, lane)))

  pub both_none : (a b d : Bool) → b ≡ (not (is_in_run 0 (z - r) t) && a) → d ≡ (not (is_in_run (z - r) r t) && b)
      → d ≡ false
  both_none a b d one two = elim (cases_lt t (z - r)) [
    | inl lt ↦ grind (arith, nat_tests)
    | inr le ↦ grind (arith, nat_tests)
  ]

  module _ (K : ℕ → Bool) where
    pub both_begun : (a b d : Bool)
        → b ≡ ((is_in_run 0 (z - r) t && not (K (from + r + (t - 0)))) || (not (is_in_run 0 (z - r) t) && a))
        → d ≡ ((is_in_run (z - r) r t && not (K (from + (t - (z - r))))) || (not (is_in_run (z - r) r t) && b))
        → d ≡ not (K (from + (t + r) % z))
    both_begun a b d one two = elim (cases_lt t (z - r)) [
      | inl lt ↦ let e = ap K (early lt) in grind (arith, nat_tests)
      | inr le ↦ let e = ap K (late le) in grind (arith, nat_tests)
    ]

    pub both_some : (a b d : Bool) → b ≡ (a || (is_in_run 0 (z - r) t && not (K (from + r + (t - 0)))))
        → d ≡ (b || (is_in_run (z - r) r t && not (K (from + (t - (z - r))))))
        → d ≡ (a || not (K (from + (t + r) % z)))
    both_some a b d one two = elim (cases_lt t (z - r)) [
      | inl lt ↦ let e = ap K (early lt) in grind (arith, nat_tests)
      | inr le ↦ let e = ap K (late le) in grind (arith, nat_tests)
    ]

    pub both_more : (s s' a b d : Bool) → s' ≡ (s || (is_in_run 0 (z - r) t && not (K (from + r + (t - 0)))))
        → b ≡ (a || (is_in_run 0 (z - r) t && (s && not (K (from + r + (t - 0))))))
        → d ≡ (b || (is_in_run (z - r) r t && (s' && not (K (from + (t - (z - r)))))))
        → d ≡ (a || (s && not (K (from + (t + r) % z))))
    both_more s s' a b d so one two = elim (cases_lt t (z - r)) [
      | inl lt ↦ let e = ap K (early lt) in grind (arith, nat_tests)
      | inr le ↦ let e = ap K (late le) in grind (arith, nat_tests)
    ]

-- the row of a position of a column of blocks
module _ (z r from p : ℕ) (small : r < z) (start : from ≤ p) (end : p < from + z) where
  front : p < from + r → 0 + (p - from + (z - r)) ≡ (p - from + (z - r)) % z
  front lt = omega (arith, mod-eq_of_lt {n = p - from + (z - r)} {m = z} (omega (arith, lt, start, small)))

  back : from + r ≤ p → p - (from + r) ≡ (p - from + (z - r)) % z
  back le = omega (arith, mod_high (p - from + (z - r)) z (omega (arith, le, small)) (omega (arith, small, start, end)))

pub both_filled : (z r from p : ℕ) (U : ℕ → Bool) → r < z → (a b d : Bool)
    → b ≡ (a || (is_in_run (from + r) (z - r) p && U (0 + (p - (from + r)))))
    → d ≡ (b || (is_in_run from r p && U (z - r + (p - from))))
    → d ≡ (a || (is_in_run from z p && U ((p - from + (z - r)) % z)))
both_filled z r from p U small a b d one two = elim (cases_lt p (from + r)) [
  | inl lt ↦ elim (cases_lt p from) [
    | inl out ↦ grind (arith, nat_tests)
    | inr start ↦
        let e : U (z - r + (p - from)) ≡ U ((p - from + (z - r)) % z) =
        ap U (omega (arith, front z r from p small start (omega (arith, lt, small)) lt)) in
        grind (arith, nat_tests)
  ]
  | inr le ↦ elim (cases_lt p (from + z)) [
    | inl end ↦
        let e : U (0 + (p - (from + r))) ≡ U ((p - from + (z - r)) % z) =
        ap U (omega (arith, back z r from p small (omega (arith, le)) end le)) in
        grind (arith, nat_tests)
    | inr out ↦ grind (arith, nat_tests)
  ]
]

-- ---- a row is visited

-- a word without a bit, and one with a bit
pub none_below : (f : ℕ → Bool) (n : ℕ) → ((j : ℕ) → j < n → f j ≡ false) → any_below f n ≡ false
none_below f zero none = refl
none_below f (suc n) none = grind (arith, none_below f n (λ j lt. none j (omega (arith, lt))), none n (omega arith))

some_below : (f : ℕ → Bool) (n sets : ℕ) → n ≡ 64 → sets < 2 ^ 64
    → ((j : ℕ) → j < n → (bit_at sets j == 1) ≡ f j)
    → any_below f n ≡ not (sets == 0)
some_below f n zero all fits is = none_below f n (λ j lt. sym (is j lt) ∙ ap (λ b. b == 1) (bit_at-zero j))
some_below f n (suc m) all fits is =
    let found = bit_at-trailing_zeros w64 (suc m) (omega arith) fits in
    let below : trailing_zeros w64 (suc m) < n = omega (arith, found.0) in
    let here = passes_any_below f n (trailing_zeros w64 (suc m)) below (sym (is _ below) ∙ ap (λ b. b == 1) found.1) in
    grind (arith, nat_tests)

pub lone_is : (words row : List ℕ) (sets : ℕ) → sets < 2 ^ 64
    → ((j : ℕ) → j < 64 → (bit_at sets j == 1) ≡ lacks_one (slice words j) row) → some_lone words row
    ≡ not (sets == 0)
unfolding some_lone
lone_is words row sets fits is = some_below (λ j. lacks_one (slice words j) row) 64 sets refl fits is

-- ---- the rows of a row of blocks

-- some row has exactly one position outside some set, if its word of such sets is not zero
pub lone_rows : (words sets : List ℕ) (row : ℕ → List ℕ) (z : ℕ) → ((t : ℕ) → slice_index sets t < 2 ^ 64)
    → ((j t : ℕ) → j < 64 → t < z → slice sets j t ≡ lacks_one (slice words j) (row t))
    → any_below (λ t. not (slice_index sets t == 0)) z ≡ some_lone_below words row z
lone_rows words sets row z fits is = any_below-same (λ t. not (slice_index sets t == 0)) (λ t. some_lone words (row t)) z
    (λ t lt. sym (lone_is words (row t) (slice_index sets t) (fits t) (λ j short. is j t short lt)))

-- no row of an empty row of blocks has a position
pub none_lone : (words : List ℕ) (l : Lifted) (row : List Entry) (z : ℕ) → slice_get row 0 ≡ None
    → false ≡ some_lone_below words (row_in l row) z
unfolding some_lone
none_lone words l [] z is = sym (none_below (λ t. some_lone words (row_in l [] t)) z
    (λ t lt. none_below (λ j. lacks_one (slice words j) (row_in l [] t)) 64 (λ j short. refl)))
none_lone words l (e ∷ row) z is = absurd (grind (arith, is))

-- ---- one more entry of a row of blocks is filled

-- one more row stands there
any_one : (u S S' : ℕ → Bool) (k : Bool) (r n : ℕ) → ((t : ℕ) → t < n → S' t ≡ (S t || (k && (r == t))))
    → any_below (λ t. u t && S' t) n ≡ (any_below (λ t. u t && S t) n || (nat_lt r n && (k && u r)))
any_one u S S' k r zero is = grind (arith, nat_tests)
any_one u S S' k r (suc n) is =
    grind (arith, nat_tests, cases_eq r n, any_one u S S' k r n (λ t lt. is t (omega (arith, lt))), is n (omega arith))

-- the positions of a column of blocks
run_column : (z col p : ℕ) → 0 < z → is_in_run (col * z) z p ≡ (col == p / z)
run_column z col p some = elim (cases_eq col (p / z)) [
  | inl e ↦ grind (arith, nat_tests, e, div-add-mod' p z, mod_below p z some)
  | inr ne ↦
      let not_here = λ (low : col * z ≤ p) (high : p < col * z + z).
      ne (sym (div-mul-add col z (p - col * z) (omega (arith, low, high))) ∙ ap (λ q. q / z) (omega (arith, low))) in
      elim (cases_lt p (col * z)) [
        | inl out ↦ grind (arith, nat_tests)
        | inr low ↦ elim (cases_lt p (col * z + z)) [
          | inl high ↦ absurd (not_here (omega (arith, low)) high)
          | inr past ↦ grind (arith, nat_tests)
        ]
      ]
]

pub filled_entry : (z values n p from r : ℕ) (es : List Entry) (e none : Entry) (u : ℕ → Bool) (old mid new : Bool) → 0 < z
    → n < length es → e ≡ get_or es n none → from ≡ e.col * z → r ≡ value_in values e % z
    → mid ≡ (old || any_below (λ t. u t && stands p (take n (positions values z t es))) z)
    → new ≡ (mid || (is_in_run from z p && u ((p - from + (z - r)) % z)))
    → new ≡ (old || any_below (λ t. u t && stands p (take (n + 1) (positions values z t es))) z)
filled_entry z values n p from r es e none u old mid new some inside e_is from_is r_is before now =
    let f = λ (t : ℕ) (x : Entry). one_at z t x.col (value_in values x) in
    let v = value_in values e in
    let own = unrotate z v (p % z) in
    let each : (t : ℕ) → t < z → stands p (take (n + 1) (positions values z t es))
    ≡ (stands p (take n (positions values z t es)) || ((e.col == p / z) && (own == t))) = λ t lt. grind (
      arith,
      list_any_more (λ q. q == p) (positions values z t es) n 0,
      length-map es (f t),
      get_or-map (f t) es n none 0 inside,
      place-eqb z t e.col v p lt,
      e_is,
    ) in
    let all = any_one u (λ t. stands p (take n (positions values z t es)))
    (λ t. stands p (take (n + 1) (positions values z t es)))
    (e.col == p / z) own z each in
    let below = mod_below (p % z + (z - v % z)) z some in
    let run : is_in_run from z p ≡ (e.col == p / z) = rw from_is (run_column z e.col p some) in
    let place : e.col ≡ p / z → (p - from + (z - r)) % z ≡ own = λ here.
    ap (λ q. q % z) (omega (arith, from_is, r_is, div-add-mod' p z, ap (λ q. q * z) here)) in
    grind (arith, nat_tests, all, below, run, place)

pub filled_none : (u : ℕ → Bool) (z : ℕ) (a : Bool) → a ≡ (a || any_below (λ t. u t && false) z)
filled_none u z a = grind (arith, none_below (λ t. u t && false) z (λ t lt. grind arith))

pub filled_all : (z values n p : ℕ) (es : List Entry) (u : ℕ → Bool) (old new : Bool) → length es ≤ n
    → new ≡ (old || any_below (λ t. u t && stands p (take n (positions values z t es))) z)
    → new ≡ (old || any_below (λ t. u t && stands p (positions values z t es)) z)
filled_all z values n p es u old new all is =
    is ∙ ap (λ b. old || b) (any_below-same (λ t. u t && stands p (take n (positions values z t es)))
    (λ t. u t && stands p (positions values z t es)) z
    (λ t lt. ap (λ ps. u t && stands p ps) (take_all n (positions values z t es)
    (omega (arith, all, length-map es (λ (e : Entry). one_at z t e.col (value_in values e)))))))

-- ---- how many positions each set lacks

pub lacking_more : (known : List ℕ) (j p old new : ℕ) → j < 64 → slice_index known p < 2 ^ 64
    → old ≡ count_by (λ q. not (slice known j q)) (range_with_len 0 p)
    → new ≡ old + cond (bit_at (bit_not w64 (slice_index known p)) j == 1) 1 0
    → new ≡ count_by (λ q. not (slice known j q)) (range_with_len 0 (p + 1))
lacking_more known j p old new short fits before now =
    grind (arith, counted_marked, bit_at_not-one (slice_index known p) j fits short)
