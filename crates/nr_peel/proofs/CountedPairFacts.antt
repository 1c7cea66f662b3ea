-- Pairs of a row and a known position of it, by the rows' counters.
use Rattle.nr_peel.proofs.Common.{nat_tests, nat_lt, add-one, row_at, ◌≡◌, ℕ, ◌+◌, ◌*◌, ◌/◌, ◌%◌, ◌<◌}
use Rattle.nr_peel.proofs.Common.{◌==◌, zero, suc, count_by, slice_index, sum, div-mul-add, mod-mul-add, mod_below, div_below}
use Rattle.nr_peel.proofs.Common.{div-add-mod', take_all, length-map, sum_by_more, bit, Checks, block_checks, one_at, CountsOf}
use Rattle.nr_peel.proofs.Common.{sum_below, row_length, mul-le-mul_left, Graph, rows_of, Numbers, Entry, Entries, entries_in}
use Rattle.nr_peel.proofs.Common.{row_of, value_in, IsPeeled, Peeling, add-suc, count_by-le-length, all_pairs, spent_pairs}
use Rattle.nr_peel.proofs.Common.{◌≤◌, Bool, not, List, [], ◌∷◌, length, take, refl, sym, ap, ◌∙◌, arith}
use Rattle.nr_peel.specs.{Peeling.most_visits, Touches.pairs_in}
use Rattle.nr_peel.proofs.RowPositionFacts.{count_by-cons, count_plus}
use Rattle.nr_peel.proofs.PairSumFacts.{sum_below-le, sum_below-plus, sum_below-same}
use Rattle.std.proofs.lemmas.List.Sums.{length-filter}

-- what passes and what doesn't are all
pub count_both : (p : ℕ → Bool) (xs : List ℕ) → count_by (λ x. not (p x)) xs + count_by p xs ≡ length xs
count_both p [] = refl
count_both p (x ∷ xs) = grind (arith, count_by-cons (λ x. not (p x)) x xs, count_by-cons p x xs, count_both p xs)

pub sum_below-append : (g : ℕ → ℕ) (a b : ℕ) → sum_below g (a + b) ≡ sum_below g a + sum_below (λ j. g (a + j)) b
sum_below-append g a zero = grind arith
sum_below-append g a (suc b) = rw add-suc (omega (arith, sum_below-append g a b))

-- rows and lanes, numbered through
pub sum_flat : (f : ℕ → ℕ → ℕ) (rows lanes : ℕ)
    → sum_below (λ i. sum_below (f i) lanes) rows ≡ sum_below (λ k. f (k / lanes) (k % lanes)) (rows * lanes)
sum_flat f zero lanes = grind arith
sum_flat f (suc rows) lanes =
    let g = λ (k : ℕ). f (k / lanes) (k % lanes) in
    let next : suc rows * lanes ≡ rows * lanes + lanes = omega arith in
    let tail = sum_below-same (f rows) (λ j. g (rows * lanes + j)) lanes
    (λ j lt. rw (div-mul-add rows lanes j lt, mod-mul-add rows lanes j lt)) in
    rw next (omega (arith, sum_flat f rows lanes, sum_below-append g (rows * lanes) lanes))

-- a list's sum, by its places
pub sum-below : (xs : List ℕ) → sum xs ≡ sum_below (slice_index xs) (length xs)
sum-below xs = sym (ap sum (take_all (length xs) xs (omega arith))) ∙ so_far (length xs) (omega arith)
  where
    so_far : (n : ℕ) → n ≤ length xs → sum (take n xs) ≡ sum_below (slice_index xs) n
    so_far zero le = refl
    so_far (suc n) le = rw (← add-one n) (omega (arith, sum_by_more (λ x. x) xs n 0 (omega arith), so_far n (omega arith)))

module _ (c : Checks) (known : List Bool) (counts : List ℕ) (pos : 0 < c.lanes) (long : length counts ≡ c.rows * c.lanes) where
  -- how many positions of row number k are known
  abbrev in_row : ℕ → ℕ
  in_row k = count_by (bit known) (c.row (k / c.lanes) (k % c.lanes))

  total : sum counts ≡ sum_below (slice_index counts) (c.rows * c.lanes)
  total = sum-below counts ∙ ap (sum_below (slice_index counts)) long

  pairs_are : pairs_in c (bit known) ≡ sum_below in_row (c.rows * c.lanes)
  unfolding pairs_in
  pairs_are = sum_flat (λ i t. count_by (bit known) (c.row i t)) c.rows c.lanes

  -- if the counts know of all that is known
  pub pairs_and_counts : CountsOf c (bit known) counts → pairs_in c (bit known) + sum counts ≡ all_pairs c
  unfolding all_pairs
  pairs_and_counts counted =
      let at = λ (k : ℕ) (lt : k < c.rows * c.lanes).
      rw (div-add-mod' k c.lanes)
      at (counted (k / c.lanes) (k % c.lanes) (div_below k c.lanes c.rows pos lt) (mod_below k c.lanes pos)) in
      let plus = sum_below-plus (slice_index counts) in_row (row_length c) (c.rows * c.lanes)
      (λ k lt. omega (arith, at k lt, count_both (bit known) (c.row (k / c.lanes) (k % c.lanes)))) in
      omega (arith, total, pairs_are, plus)

  -- if they know of nothing else
  module _ (most : (i t : ℕ) → i < c.rows → t < c.lanes
      → length (c.row i t) ≤ slice_index counts (i * c.lanes + t) + count_by (bit known) (c.row i t)) where
    most_at : (k : ℕ) → k < c.rows * c.lanes → row_length c k ≤ slice_index counts k + in_row k
    most_at k lt = rw (div-add-mod' k c.lanes)
        at (most (k / c.lanes) (k % c.lanes) (div_below k c.lanes c.rows pos lt) (mod_below k c.lanes pos))

    pub pairs_most : all_pairs c ≤ pairs_in c (bit known) + sum counts
    unfolding all_pairs
    pairs_most = omega (
      arith,
      total,
      pairs_are,
      sum_below-le (row_length c) (λ k. slice_index counts k + in_row k) (c.rows * c.lanes) most_at,
      sum_below-plus (slice_index counts) in_row (λ k. slice_index counts k + in_row k) (c.rows * c.lanes) (λ k lt. refl),
    )

    pub spent_known : spent_pairs c counts ≤ pairs_in c (bit known)
    unfolding spent_pairs
    spent_known = grind (arith, nat_tests, pairs_are, sum_below-le, most_at)

-- ---- there are no more pairs of a row and a position of it than the lifting size times the entries of the base graph

-- a row of blocks has at most z pairs for each of its entries
pub lanes_sum : (f : ℕ → ℕ) (m n : ℕ) → ((t : ℕ) → f t ≤ m) → sum_below f n ≤ n * m
lanes_sum f m zero h = omega arith
lanes_sum f m (suc n) h = omega (arith, lanes_sum f m n h, h n)

-- the first rows have at most those of their entries
rows_pairs : (S : ℕ → Bool) (es : List Entry) (set z rows : ℕ)
    → sum_below (λ i. sum_below (λ l. count_by S (row_at es set z i l)) z) rows ≤ z * count_by (λ e. nat_lt e.row rows) es
rows_pairs S es set z zero = omega arith
rows_pairs S es set z (suc i) =
    let own = λ (e : Entry). e.row == i in
    let each = lanes_sum (λ l. count_by S (row_at es set z i l)) (count_by own es) z
    (λ l. omega (
      arith,
      count_by-le-length S (row_at es set z i l),
      length-map (row_of es i) (λ (e : Entry). one_at z l e.col (value_in set e)),
      length-filter own es,
    )) in
    let more = count_plus (λ e. nat_lt e.row i) own (λ e. nat_lt e.row (suc i)) (λ e. grind arith) es in
    omega (arith, rows_pairs S es set z i, ap (λ n. z * n) more)

pub pairs_few : (t : Entries) (g : Graph) (p : Numbers) (S : ℕ → Bool)
    → pairs_in (block_checks t g p) S ≤ p.z * length (entries_in g t)
unfolding pairs_in
pairs_few t g p S =
    omega (
      arith,
      rows_pairs S (entries_in g t) p.set p.z (rows_of g),
      mul-le-mul_left p.z (count_by-le-length (λ (e : Entry). nat_lt e.row (rows_of g)) (entries_in g t)),
    )

pub visits_few : (s : Peeling) → IsPeeled s → s.touches ≤ most_visits s
visits_few s peeled = omega (arith, peeled.at_most, pairs_few s.table s.graph s.numbers (bit s.known))
