-- Ranges of numbers: rotated, cut in two, and without those between two others that a test drops.
use Rattle.nr_ratematch.proofs.Common.{◌≡◌, ℕ, zero, suc, ◌+◌, ◌-◌, ◌%◌, ◌<◌, ◌≤◌, min, Bool, true}
use Rattle.nr_ratematch.proofs.Common.{false, cond, List, [], ◌∷◌, ◌++◌, length, map, filter, sym, ap, subst, ◌∙◌}
use Rattle.nr_ratematch.proofs.Common.{arith, range_with_len, mod-eq_of_lt, cases_lt, nat_tests, append-nil, map-id, length-append}
use Rattle.nr_ratematch.proofs.Common.{get_or-map-range_with_len, map-range_with_len_more, mod_once, index_of}
use Rattle.nr_ratematch.proofs.Common.{get_or_append_left, get_or-append_right, length-map-range_with_len}
use Rattle.std.proofs.lemmas.List.{same_lists}
use Rattle.std.proofs.lemmas.List.FromFn.{length-range_with_len, get_or-range_with_len, filter_of_map_range_with_len_more}
use Rattle.nr_bitvec.proofs.ListFacts.{range_with_len-add}

-- one of two cases
pub below_or_not : (i n : ℕ) {T : Type 0} → (i < n → T) → (n ≤ i → T) → T
below_or_not i n below above = grind (arith, nat_tests, cases_lt)

-- a range in two parts
pub range_split : (s n : ℕ) → s ≤ n → range_with_len 0 n ≡ range_with_len 0 s ++ range_with_len s (n - s)
range_split s n inside =
    let whole : s + (n - s) ≡ n = omega arith in
    let start : 0 + s ≡ s = omega arith in
    rw start at (rw whole at (range_with_len-add 0 s (n - s)))

-- a range rotated, so that s is the first
pub range_turned : (s n : ℕ) → s ≤ n
    → map (λ j. (s + j) % n) (range_with_len 0 n) ≡ range_with_len s (n - s) ++ range_with_len 0 s
range_turned s n inside =
    let turned : ℕ → ℕ = λ j. (s + j) % n in
    let rest = range_with_len s (n - s) in
    let front = range_with_len 0 s in
    let long : length (map turned (range_with_len 0 n)) ≡ n = length-map-range_with_len turned 0 n in
    let front_long : length (range_with_len 0 s) ≡ s = length-range_with_len 0 s in
    let rest_long : length (range_with_len s (n - s)) ≡ n - s = length-range_with_len s (n - s) in
    let both = length-append rest front in
    same_lists (map turned (range_with_len 0 n)) (rest ++ front) (omega arith) (λ k d below.
    get_or-map-range_with_len turned 0 n k k d (omega arith) (omega arith)
    ∙ below_or_not k (n - s)
    (λ low.
    mod-eq_of_lt (omega arith)
    ∙ sym (get_or_append_left rest front d k (omega arith) ∙ get_or-range_with_len s (n - s) k d low))
    (λ high.
    let here : s + k - n ≡ 0 + (k - (n - s)) = omega arith in
    mod_once (s + k) n (omega arith) (omega arith)
    ∙ here
    ∙ sym (get_or-append_right rest front (n - s) k d rest_long high
    ∙ get_or-range_with_len 0 s (k - (n - s)) d (omega arith))))

-- of the numbers below n, a test drops those from a on and below b
pub record Skips (keep : ℕ → Bool) (a b n : ℕ) : Type 0 where
  pub order : a ≤ b
  pub before : (i : ℕ) → i < a → keep i ≡ true
  pub within : (i : ℕ) → a ≤ i → i < b → keep i ≡ false
  pub after : (i : ℕ) → b ≤ i → i < n → keep i ≡ true

-- how many numbers below n are kept
abbrev pub rank : ℕ → ℕ → ℕ → ℕ
rank a b n = min n a + (n - b)

-- the kept numbers below m
abbrev kept : ℕ → ℕ → ℕ → List ℕ
kept a b m = map (index_of a (b - a)) (range_with_len 0 (rank a b m))

-- one more number, which is kept
filter-kept : (keep : ℕ → Bool) (a b m : ℕ) → keep m ≡ true → index_of a (b - a) (rank a b m) ≡ m
    → rank a b (m + 1) ≡ rank a b m + 1 → kept a b m ++ cond (keep m) (m ∷ []) [] ≡ kept a b (m + 1)
filter-kept keep a b m is_kept here more =
    let index : ℕ → ℕ = index_of a (b - a) in
    ap (λ c. kept a b m ++ cond c (m ∷ []) []) is_kept
    ∙ ap (λ i. kept a b m ++ i ∷ []) (sym here)
    ∙ sym (map-range_with_len_more index 0 (rank a b m) (rank a b m) (omega arith))
    ∙ ap (λ r. map index (range_with_len 0 r)) (sym more)

-- one more number, which is dropped
filter-dropped : (keep : ℕ → Bool) (a b m : ℕ) → keep m ≡ false → rank a b (m + 1) ≡ rank a b m
    → kept a b m ++ cond (keep m) (m ∷ []) [] ≡ kept a b (m + 1)
filter-dropped keep a b m is_dropped same = grind (arith, append-nil)

pub index-low : (front skip i : ℕ) → i < front → index_of front skip i ≡ i
index-low front skip i low = grind (arith, nat_tests)

pub index-high : (front skip i : ℕ) → front ≤ i → index_of front skip i ≡ i + skip
index-high front skip i high = grind (arith, nat_tests)

-- one more number
filter-step : (keep : ℕ → Bool) (a b n m : ℕ) → Skips keep a b n → m < n
    → kept a b m ++ cond (keep m) (m ∷ []) [] ≡ kept a b (m + 1)
filter-step keep a b n m skips inside = grind (arith, below_or_not, filter-kept, index-low, filter-dropped, index-high)

-- the test keeps these
pub filter-range : (keep : ℕ → Bool) (a b n m : ℕ) → Skips keep a b n → m ≤ n
    → filter keep (range_with_len 0 m) ≡ map (index_of a (b - a)) (range_with_len 0 (rank a b m))
filter-range keep a b n zero skips inside = grind arith
filter-range keep a b n (suc m) skips inside =
    let next : m + 1 ≡ suc m = omega arith in
    let same : ℕ → ℕ = λ i. i in
    let so_far = filter-range keep a b n m skips (omega arith) in
    subst (λ k. filter keep (range_with_len 0 k) ≡ map (index_of a (b - a)) (range_with_len 0 (rank a b k))) next
    (ap (filter keep) (sym (map-id (range_with_len 0 (m + 1))))
    ∙ filter_of_map_range_with_len_more keep same 0 m m (omega arith)
    ∙ ap (λ xs. filter keep xs ++ cond (keep m) (m ∷ []) []) (map-id (range_with_len 0 m))
    ∙ ap (λ xs. xs ++ cond (keep m) (m ∷ []) []) so_far
    ∙ filter-step keep a b n m skips (omega arith))
