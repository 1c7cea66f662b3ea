-- The positions that are not known, listed word by word, and those that were gained, counted column by column.
use Rattle.nr_peel.proofs.Common.{nat_tests, add-one, append-nil, ◌≡◌, ℕ, zero, suc, ◌+◌, ◌-◌, ◌<◌, ◌≤◌}
use Rattle.nr_peel.proofs.Common.{◌==◌, Bool, not, cond, List, [], ◌∷◌, ◌++◌, refl, sym, arith, ◌*◌, ◌%◌}
use Rattle.nr_peel.proofs.Common.{◌&&◌, bit_at, filter, range_with_len, count_by, bit_at_ones, bit, is_set, marked_count}
use Rattle.nr_peel.proofs.{Common.marked-same, Common.mod-eq_of_lt, LeftPositionFacts.marked_column}
use Rattle.std.proofs.lemmas.List.{Elements.filter-append, Sums.sum_by_push}
use Rattle.nr_bitvec.proofs.ListFacts.{range_with_len-add}

-- ---- a filter of consecutive numbers

-- one more number
pub kept_on : (keeps : ℕ → Bool) (a n : ℕ)
    → filter keeps (range_with_len a (n + 1)) ≡ filter keeps (range_with_len a n) ++ cond (keeps (a + n)) ((a + n) ∷ []) []
kept_on keeps a n = rw (range_with_len-add a n 1) (filter-append keeps (range_with_len a n) ((a + n) ∷ []))

pub kept_same : (keeps other : ℕ → Bool) (a n : ℕ) → ((p : ℕ) → a ≤ p → p < a + n → keeps p ≡ other p)
    → filter keeps (range_with_len a n) ≡ filter other (range_with_len a n)
kept_same keeps other a zero same = refl
kept_same keeps other a (suc n) same =
    grind (arith, kept_same keeps other (a + 1) n (λ p low below. same p (omega arith) (omega arith)))

-- ---- the positions of a word

-- a word that begins at a position doesn't mark another
abbrev pub is_missing : ℕ → ℕ → ℕ → Bool
is_missing word start p = not (bit_at word (p - start) == 1)

pub missing_at : (word start j : ℕ) → is_missing word start (start + j) ≡ not (bit_at word j == 1)
missing_at word start j = grind (arith, nat_tests)

-- a full word marks all
pub full_missing : (old : List ℕ) (word start count : ℕ) → word ≡ 18446744073709551615 → count ≤ 64
    → old ≡ old ++ filter (is_missing word start) (range_with_len start count)
full_missing old word start zero full few = sym (append-nil old)
full_missing old word start (suc n) full few =
    let more : old ≡ old ++ filter (is_missing word start) (range_with_len start (n + 1)) =
    grind (
      arith,
      kept_on,
      missing_at word start n,
      full_missing old word start n full (omega arith),
      bit_at_ones 64 n (omega arith),
      append-nil,
    ) in
    rw (add-one n) at more

-- the positions of one more word are listed
pub listed_more : (known : List Bool) (items : List ℕ) (at count word : ℕ)
    → ((j : ℕ) → j < count → (bit_at word j == 1) ≡ bit known (at + j))
    → items ≡ filter (λ p. not (bit known p)) (range_with_len 0 at) ++ filter (is_missing word at) (range_with_len at count)
    → items ≡ filter (λ p. not (bit known p)) (range_with_len 0 (at + count))
listed_more known items at count word marks is = grind (arith, kept_same, range_with_len-add 0 at count, filter-append)

-- ---- how many positions are known that were not given, counted column by column

pub counted_marked : (test : ℕ → Bool) (n : ℕ) → count_by test (range_with_len 0 n) ≡ marked_count test n
counted_marked test zero = refl
counted_marked test (suc n) =
    let more : count_by test (range_with_len 0 (n + 1)) ≡ count_by test (range_with_len 0 n) + cond (test (0 + n)) 1 0 =
    rw (range_with_len-add 0 n 1) (sum_by_push (λ k. cond (test k) 1 0) (range_with_len 0 n) (0 + n)) in
    grind (arith, counted_marked test n)

-- a position is known and was not given
abbrev pub is_gained : List Bool → List Bool → ℕ → Bool
is_gained known given p = bit known p && not (bit given p)

-- one more column
pub gained_column : (known given : List Bool) (z j count : ℕ) (lane given_lane rest : List ℕ)
    → ((t : ℕ) → t < z → is_set lane t ≡ bit known (j * z + (t + 0) % z))
    → ((t : ℕ) → t < z → is_set given_lane t ≡ bit given (j * z + t))
    → ((t : ℕ) → is_set rest t ≡ (is_set lane t && not (is_set given_lane t))) → count ≡ marked_count (is_set rest) z
    → count_by (is_gained known given) (range_with_len 0 (j * z)) + count
    ≡ count_by (is_gained known given) (range_with_len 0 ((j + 1) * z))
gained_column known given z j count lane given_lane rest lane_is given_is rest_is counted =
    grind (arith, nat_tests, marked-same, mod-eq_of_lt, counted_marked, marked_column)
