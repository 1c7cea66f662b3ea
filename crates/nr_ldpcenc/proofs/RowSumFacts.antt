-- Sums of a word over the entries of a row, before a column and from it on.
use Rattle.nr_ldpcenc.proofs.Common.{nat_tests, ◌≡◌, ℕ, ◌*◌, ◌<◌, ◌≤◌, nat_lt, nat_le, Bool, inl, inr, List}
use Rattle.nr_ldpcenc.proofs.Common.{[], ◌∷◌, map, refl, ap, ◌∙◌, arith, filter, mul-le-mul_right, cases_lt, lt-ltb}
use Rattle.nr_ldpcenc.proofs.Common.{le-ltb, lt-leb, le-leb, ◌⊕◌, Entry, row_of, value_in, tail_of, parity, one_at, row_at}
use Rattle.nr_ldpcenc.proofs.Common.{Lifting, head_sum, IsHead, AgreeBelow, sum_between}
use Rattle.nr_ldpcenc.specs.Rows.{Checks, Meets, meets_all, positions}
use Rattle.std.specs.Prelude.{true, false, not}
use Rattle.std.specs.List.{list_all, range_with_len}
use Rattle.std.proofs.Common.{sym}
use Rattle.std.proofs.lemmas.Bool.{not-true}
use Rattle.std.proofs.lemmas.List.Elements.{All-from_get_or}
use Rattle.std.proofs.lemmas.List.FromFn.{get_or-range_with_len, length-range_with_len}
use Rattle.std.proofs.lemmas.List.Sums.{AllPass-from_list_all, list_all-from_AllPass}
use Rattle.nr_shifttable.specs.Tails.{tail}

-- a row's sum is that before a column plus that from it on
parity-split : (w : ℕ → Bool) (f : Entry → ℕ) (j : ℕ) (xs : List Entry)
    → parity w (map f xs) ≡ parity w (map f (filter (λ e. nat_lt e.col j) xs))
    ⊕ parity w (map f (filter (λ e. nat_le j e.col) xs))
parity-split w f j [] = refl
parity-split w f j (x ∷ xs) = grind (arith, nat_tests, cases_lt, lt-ltb, lt-leb, parity-split w f j xs, le-ltb, le-leb)

-- the sum of a word over a list of columns and values, in lane t
abbrev pub tail_sum : (ℕ → Bool) → ℕ → ℕ → List (ℕ × ℕ) → Bool
tail_sum w z t cs = parity w (map (λ c. one_at z t c.0 c.1) cs)

tail_sum-cells : (w : ℕ → Bool) (set z t : ℕ) (xs : List Entry)
    → parity w (map (λ e. one_at z t e.col (value_in set e)) xs) ≡ tail_sum w z t (map (λ e. (e.col, value_in set e)) xs)
tail_sum-cells w set z t [] = refl
tail_sum-cells w set z t (x ∷ xs) = ap (λ b. w (one_at z t x.col (value_in set x)) ⊕ b) (tail_sum-cells w set z t xs)

-- the sum of a word over row t of row of blocks i, from column j on
abbrev pub sum_from : List Entry → ℕ → ℕ → (ℕ → Bool) → ℕ → ℕ → ℕ → Bool
sum_from es set z w j i t = parity w (positions set z t (tail es i j))

pub sum_from-cells : (es : List Entry) (set z : ℕ) (w : ℕ → Bool) (j i t : ℕ) (cs : List (ℕ × ℕ))
    → tail_of es set j i ≡ cs → sum_from es set z w j i t ≡ tail_sum w z t cs
sum_from-cells es set z w j i t cs e = tail_sum-cells w set z t (tail es i j) ∙ ap (tail_sum w z t) e

-- a row's sum is that before column j plus that from it on
pub row-parts : (l : Lifting) (w : ℕ → Bool) (j i t : ℕ)
    → parity w (row_at l.entries l.set l.z i t) ≡ head_sum l w j i t ⊕ sum_from l.entries l.set l.z w j i t
row-parts l w j i t = parity-split w (λ e. one_at l.z t e.col (value_in l.set e)) j (row_of l.entries i)

-- the same, if the cells from column j on are known
pub row-splits : (l : Lifting) (w : ℕ → Bool) (j i t : ℕ) (cs : List (ℕ × ℕ)) → tail_of l.entries l.set j i ≡ cs
    → parity w (row_at l.entries l.set l.z i t) ≡ head_sum l w j i t ⊕ tail_sum w l.z t cs
row-splits l w j i t cs e =
    row-parts l w j i t ∙ ap (λ b. head_sum l w j i t ⊕ b) (sum_from-cells l.entries l.set l.z w j i t cs e)

-- a place of a column below j
pub place_below : (z t c v j : ℕ) → 0 < z → c < j → one_at z t c v < j * z
place_below z t c v j pos lt = grind (arith, mul-le-mul_right)

-- sums before a column see only the columns before it
pub heads-agree : (l : Lifting) (v w : ℕ → Bool) (j i t : ℕ) → 0 < l.z → AgreeBelow (j * l.z) v w
    → head_sum l v j i t ≡ head_sum l w j i t
heads-agree l v w j i t pos same = over (row_of l.entries i)
  where
    over : (xs : List Entry) → parity v (map (λ e. one_at l.z t e.col (value_in l.set e)) (filter (λ e. nat_lt e.col j) xs))
        ≡ parity w (map (λ e. one_at l.z t e.col (value_in l.set e)) (filter (λ e. nat_lt e.col j) xs))
    over [] = refl
    over (x ∷ xs) = elim (cases_lt x.col j) [
      | inl below ↦
          let here = one_at l.z t x.col (value_in l.set x) in
          rw (lt-ltb x.col j below)
          (cc (over xs, same here (place_below l.z t x.col (value_in l.set x) j pos below)))
      | inr above ↦ rw (le-ltb x.col j above) (over xs)
    ]

-- the sum of a row over the information columns, with the sum from there on and before another column
pub rest_after-head : (l : Lifting) (v w : ℕ → Bool) (m i t : ℕ) (head sum : Bool) → 0 < l.z → l.info_cols ≤ m
    → AgreeBelow (m * l.z) v w → head ≡ head_sum l v l.info_cols i t
    → sum ≡ head ⊕ sum_between l.set l.z w l.info_cols m t (row_of l.entries i) → sum ≡ head_sum l v m i t
rest_after-head l v w m i t head sum pos le same is_head is_sum =
    let low : l.info_cols * l.z ≤ m * l.z = mul-le-mul_right l.z le in
    grind (
      arith,
      is_head,
      is_sum,
      heads-agree l v w l.info_cols i t pos (λ p lt. same p (omega (arith, lt, low))),
      heads-agree l v w m i t pos same,
    )

-- the sum over the information columns, for another word that has the same ones
pub head-moves : (l : Lifting) (v w : ℕ → Bool) (i : ℕ) (sum : List ℕ) → 0 < l.z → AgreeBelow (l.info_cols * l.z) v w
    → IsHead l v i sum → IsHead l w i sum
head-moves l v w i sum pos same head t lt = head t lt ∙ heads-agree l v w l.info_cols i t pos same

-- a test that each number below n passes
below : (p : ℕ → Bool) (n i : ℕ) → list_all p (range_with_len 0 n) ≡ true → i < n → p i ≡ true
below p n i all lt = ap p (sym (get_or-range_with_len 0 n i 0 lt ∙ omega arith))
    ∙ AllPass-from_list_all p (range_with_len 0 n) all i 0 (omega (arith, length-range_with_len 0 n, lt))

all_below : (p : ℕ → Bool) (n : ℕ) → ((i : ℕ) → i < n → p i ≡ true) → list_all p (range_with_len 0 n) ≡ true
all_below p n each = list_all-from_AllPass p (range_with_len 0 n)
    (All-from_get_or (λ i. p i ≡ true) (range_with_len 0 n) 0 (λ i lt.
    let low : i < n = omega (arith, length-range_with_len 0 n, lt) in
    ap p (get_or-range_with_len 0 n i 0 low ∙ omega arith) ∙ each i low))

-- every row of parity checks is met, each by itself
abbrev pub MeetsEach : Checks → (ℕ → Bool) → Type 0
MeetsEach c w = (i t : ℕ) → i < c.rows → t < c.lanes → parity w (c.row i t) ≡ false

pub Meets-from_each : (c : Checks) (w : ℕ → Bool) → MeetsEach c w → Meets c w
unfolding meets_all
Meets-from_each c w met =
    all_below (λ i. list_all (λ t. not (parity w (c.row i t))) (range_with_len 0 c.lanes)) c.rows
    (λ i low. all_below (λ t. not (parity w (c.row i t))) c.lanes (λ t lane. ap not (met i t low lane)))

pub Meets-each : (c : Checks) (w : ℕ → Bool) → Meets c w → MeetsEach c w
unfolding meets_all
Meets-each c w all i t low lane =
    not-true (parity w (c.row i t)) (below (λ t. not (parity w (c.row i t))) c.lanes t
    (below (λ i. list_all (λ t. not (parity w (c.row i t))) (range_with_len 0 c.lanes)) c.rows i all low) lane)
