-- How many rows have none or one unknown position, and how many pairs are of such rows.
use Rattle.nr_peel.proofs.Common.{nat_tests, ◌≡◌, ◌≢◌, ℕ, nat_lt, zero, suc, ◌+◌, ◌*◌, ◌/◌, ◌%◌}
use Rattle.nr_peel.proofs.Common.{◌<◌, ◌≤◌, ◌==◌, ◌&&◌, if◌then◌else◌, Bool, true, cond, List, length, refl}
use Rattle.nr_peel.proofs.Common.{ap, ◌∙◌, arith, cases_eq, slice_index, sum, div-add-mod', div-mul-add, mod-mul-add}
use Rattle.nr_peel.proofs.Common.{mod_below, mul-le-mul_right, is_set, marked_count, marked-append, marked-same, Checks, sum_below}
use Rattle.nr_peel.proofs.{Common.row_length, Common.has_count, Common.all_pairs, Common.spent_pairs, CountedPairFacts.sum-below}
use Rattle.nr_peel.{specs.inside.Sweeps.searched_below, specs.inside.Sweeps.searched_pairs, proofs.FallingCountFacts.sum_where}
use Rattle.nr_peel.proofs.PairSumFacts.{sum_below-le, sum_below-plus}
use Rattle.nr_peel.proofs.MarkedFacts.{marked_le, marked_two, marked_within, no_marks}

-- no count is none and one at the same time
pub none_and_one : (counts : List ℕ) (n : ℕ) → marked_count (has_count 0 counts) n + marked_count (has_count 1 counts) n ≤ n
none_and_one counts zero = omega arith
none_and_one counts (suc n) = grind (arith, nat_tests, none_and_one counts n)

-- ---- counts that fall

pub zeros_more : (old new : List ℕ) (n : ℕ) → ((k : ℕ) → slice_index new k ≤ slice_index old k)
    → marked_count (has_count 0 old) n ≤ marked_count (has_count 0 new) n
zeros_more old new n falls = marked_le (has_count 0 old) (has_count 0 new) n (λ k _. grind (arith, nat_tests, falls k))

module _ (c : Checks) (u : ℕ → Bool) (old new : List ℕ)
    (falls : (k : ℕ) → slice_index new k + cond (u k) 1 0 ≡ slice_index old k)
    (one : (k : ℕ) → u k ≡ true → slice_index old k ≡ 1) where
  -- rows that had one unknown position and have none add to those that have none
  pub zeros_gain : marked_count (has_count 0 old) (c.rows * c.lanes) + marked_count u (c.rows * c.lanes)
      ≤ marked_count (has_count 0 new) (c.rows * c.lanes)
  zeros_gain =
      marked_two (has_count 0 old) u (has_count 0 new) (c.rows * c.lanes) (λ k l. grind (arith, nat_tests, falls k, one k))

  pub spent_searched : spent_pairs c old + searched_pairs c u ≤ spent_pairs c new
  unfolding spent_pairs searched_pairs
  spent_searched =
      let none = λ (k : ℕ). cond (slice_index old k == 0) (row_length c k) 0 in
      let some = λ (k : ℕ). cond (u k) (row_length c k) 0 in
      let both = sum_below-plus none some (λ k. none k + some k) (c.rows * c.lanes) (λ k _. refl) in
      let most = sum_below-le (λ k. none k + some k) (λ k. cond (slice_index new k == 0) (row_length c k) 0) (c.rows * c.lanes)
      (λ k l. grind (arith, nat_tests, falls k, one k)) in
      omega (arith, both, most)

-- what each count falls by, the sum falls by
pub sum_falls : (u : ℕ → Bool) (old new : List ℕ) → length new ≡ length old
    → ((k : ℕ) → slice_index new k + cond (u k) 1 0 ≡ slice_index old k)
    → sum new + marked_count u (length old) ≡ sum old
sum_falls u old new long falls =
    let plus = sum_below-plus (slice_index new) (λ k. cond (u k) 1 0) (slice_index old) (length old) (λ k _. falls k) in
    omega (arith, sum-below old, sum-below new ∙ ap (sum_below (slice_index new)) long, sum_where true u (length old))

-- ---- rows that are searched

pub searched_most : (c : Checks) (u : ℕ → Bool) → searched_pairs c u ≤ all_pairs c
unfolding searched_pairs all_pairs
searched_most c u = sum_below-le (λ k. cond (u k) (row_length c k) 0) (row_length c) (c.rows * c.lanes) (λ k _. grind arith)

-- rows that have d positions each
searched_alike : (c : Checks) (u : ℕ → Bool) (d : ℕ) → ((k : ℕ) → u k ≡ true → row_length c k ≡ d)
    → searched_pairs c u ≡ marked_count u (c.rows * c.lanes) * d
unfolding searched_pairs
searched_alike c u d alike = go (c.rows * c.lanes)
  where
    go : (n : ℕ) → searched_below c u n ≡ marked_count u n * d
    go zero = omega arith
    go (suc n) = grind (arith, go n, alike n)

-- ---- the rows of a row block

-- the marked rows of a row block are at most all
pub block_marked : (c : Checks) (u : ℕ → Bool) (i : ℕ) → i < c.rows
    → marked_count (λ t. u (i * c.lanes + t)) c.lanes ≤ marked_count u (c.rows * c.lanes)
block_marked c u i block =
    let fits : (i + 1) * c.lanes ≤ c.rows * c.lanes = mul-le-mul_right c.lanes (omega (arith, block)) in
    omega (
      arith,
      marked-append u (i * c.lanes) c.lanes,
      marked_within u (i * c.lanes + c.lanes) (c.rows * c.lanes) (omega (arith, fits)),
    )

-- the rows of row block i that a lane marks
abbrev pub ones_in : Checks → ℕ → List ℕ → ℕ → Bool
ones_in c i ones k = (i == k / c.lanes) && is_set ones (k % c.lanes)

module _ (c : Checks) (some : 0 < c.lanes) (i : ℕ) (ones : List ℕ) where
  ones_at : (h t : ℕ) → t < c.lanes → ones_in c i ones (h * c.lanes + t) ≡ ((i == h) && is_set ones t)
  ones_at h t below = rw (div-mul-add h c.lanes t below, mod-mul-add h c.lanes t below) refl

  ones_below : (n : ℕ)
      → marked_count (ones_in c i ones) (n * c.lanes) ≡ cond (nat_lt i n) (marked_count (is_set ones) c.lanes) 0
  ones_below zero = grind arith
  ones_below (suc n) =
      let here = λ (e : i ≡ n).
      marked-same (λ t. ones_in c i ones (n * c.lanes + t)) (is_set ones) c.lanes
      (λ t below. grind (arith, nat_tests, ones_at n t below)) in
      let none = λ (e : i ≢ n).
      no_marks (λ t. ones_in c i ones (n * c.lanes + t)) c.lanes (λ t below. grind (arith, nat_tests, ones_at n t below)) in
      grind (arith, nat_tests, cases_eq i n, here, none, ones_below n, marked-append (ones_in c i ones) (n * c.lanes) c.lanes)

  pub ones_all : i < c.rows → marked_count (ones_in c i ones) (c.rows * c.lanes) ≡ marked_count (is_set ones) c.lanes
  ones_all block = grind (arith, nat_tests, ones_below c.rows)

  pub ones_pairs : (d : ℕ) → i < c.rows → ((t : ℕ) → length (c.row i t) ≡ d)
      → searched_pairs c (ones_in c i ones) ≡ marked_count (is_set ones) c.lanes * d
  ones_pairs d block alike =
      rw (← ones_all block) (searched_alike c (ones_in c i ones) d (λ k has. grind (arith, nat_tests, alike (k % c.lanes))))

  -- what is true of each row of the lane is true of each such row
  pub ones_one : (counts : List ℕ)
      → ((t : ℕ) → t < c.lanes → is_set ones t ≡ true → slice_index counts (i * c.lanes + t) ≡ 1) → (k : ℕ)
      → ones_in c i ones k ≡ true → slice_index counts k ≡ 1
  ones_one counts one k has = grind (arith, nat_tests, mod_below k c.lanes some, div-add-mod' k c.lanes, one (k % c.lanes))

  pub ones_fall : (old new : List ℕ)
      → ((h t : ℕ) → t < c.lanes
      → slice_index new (h * c.lanes + t) + (if (i == h) && is_set ones t then 1 else 0) ≡ slice_index old (h * c.lanes + t))
      → (k : ℕ) → slice_index new k + cond (ones_in c i ones k) 1 0 ≡ slice_index old k
  ones_fall old new falls k = rw (div-add-mod' k c.lanes) at (falls (k / c.lanes) (k % c.lanes) (mod_below k c.lanes some))
