-- Steps of the rows that a lane marks.
use Rattle.nr_peel.proofs.Common.{nat_tests, ◌≡◌, ◌≢◌, ℕ, zero, suc, ◌+◌, ◌-◌, ◌*◌, ◌/◌, ◌%◌}
use Rattle.nr_peel.proofs.Common.{◌^◌, ◌<◌, ◌≤◌, ◌==◌, nat_lt, Bool, true, false, List, [], ◌∷◌, ◌++◌}
use Rattle.nr_peel.proofs.Common.{length, take, get_or, refl, sym, ap, ◌∙◌, arith, add-suc, append-nil, append_assoc}
use Rattle.nr_peel.proofs.Common.{length-append, ◌&&◌, cases_eq, cases_lt, eqb-true, mod_below, bit_at-trailing_zeros}
use Rattle.nr_peel.proofs.Common.{bit_at-zero, bit_at, trailing_zeros, w64, bit_and, count_ones, marked-le, ones_marked, IsClear}
use Rattle.nr_peel.proofs.Common.{is_set, marked_count, rotated_step, with_steps, step_in, step_along, step_number, steps_below}
use Rattle.nr_peel.proofs.Common.{Fix, list_any-append, Checks, Within, accepts, all_accepted, is_fixed_by, mod-eq_of_lt}
use Rattle.nr_peel.{specs.inside.Lanes.place_in, proofs.RowPlaceFacts.mod_high, proofs.MarkedFacts.marked_within}
use Rattle.nr_peel.proofs.FixOrderFacts.{accepted_after, accepts_more, after_accepted}
use Rattle.std.proofs.{lemmas.List.take-append-le, lemmas.Nat.pow_pos, lemmas.Nat.shr_split, Math.Nat.pow-suc}
use Rattle.std.proofs.lemmas.Nat.Bits.{bit_at-pow_other, bit_at-pow_same, bit_at_above, bit_at_and, bit_at_cat_high, bit_at_cat_low}
use Rattle.std.proofs.lemmas.Nat.Bits.{bit_at_ones_above, same_from_bits_below}
use Rattle.nr_lifting.proofs.LaneBitFacts.{counted_all, word_bit}
use Rattle.nr_bitvec.proofs.BitFacts.{bit_at_mod, bit_at_shr}

-- no step if nothing is marked
pub steps_none : (step : ℕ → Fix) (u : ℕ → Bool) (n m : ℕ) → n ≤ m
    → ((t : ℕ) → n ≤ t → t < m → u t ≡ false) → steps_below step u m ≡ steps_below step u n
steps_none step u n zero le none = grind arith
steps_none step u n (suc m) le none = grind (
  arith,
  cases_eq n (suc m),
  append-nil,
  none m,
  λ (l : n ≤ m). steps_none step u n m l (λ t above below. none t above (omega (arith, below))),
)

-- steps of the same marked rows that agree there
pub steps_same : (step step' : ℕ → Fix) (u v : ℕ → Bool) (n : ℕ)
    → ((t : ℕ) → t < n → u t ≡ true → step t ≡ step' t) → ((t : ℕ) → t < n → u t ≡ v t)
    → steps_below step u n ≡ steps_below step' v n
steps_same step step' u v zero is same = refl
steps_same step step' u v (suc n) is same =
    grind (arith, steps_same step step' u v n (λ t h. is t (omega (arith, h))) (λ t h. same t (omega (arith, h))), is n, same n)

-- those of the rows from row a on come after the others
pub steps_append : (step : ℕ → Fix) (u : ℕ → Bool) (a b : ℕ)
    → steps_below step u (a + b) ≡ steps_below step u a ++ steps_below (λ j. step (a + j)) (λ j. u (a + j)) b
steps_append step u a zero = grind (arith, append-nil)
steps_append step u a (suc b) = rw (add-suc, steps_append step u a b, append_assoc)

-- there are as many as marked rows
pub steps_count : (step : ℕ → Fix) (u : ℕ → Bool) (n : ℕ) → length (steps_below step u n) ≡ marked_count u n
steps_count step u zero = refl
steps_count step u (suc n) = grind (arith, length-append, steps_count step u n)

-- ---- the bits of a word, one after another

-- the lowest bit of a word, and the word without it
module _ (rest b : ℕ) (set : bit_at rest b ≡ 1) (before : (i : ℕ) → i < b → bit_at rest i ≡ 0) where
  less_is : rest - 1 ≡ rest / 2 ^ suc b * 2 ^ suc b + (2 ^ b - 1)
  less_is =
      let low : rest % 2 ^ suc b ≡ 2 ^ b =
      grind (
        arith,
        same_from_bits_below (suc b) (rest % 2 ^ suc b) (2 ^ b),
        mod_below rest (2 ^ suc b) (pow_pos (suc b)),
        pow-suc 2 b,
        pow_pos,
        bit_at_mod,
        cases_eq,
        set,
        before,
        bit_at-pow_same,
        bit_at-pow_other,
      ) in
      omega (arith, shr_split rest (suc b), low, pow_pos b)

  lowest_lost : bit_at (bit_and rest (rest - 1)) b ≡ 0
  lowest_lost = grind (arith, less_is, bit_at_cat_low, bit_at_ones_above, bit_at_and)

  others_kept : (j : ℕ) → j ≢ b → bit_at (bit_and rest (rest - 1)) j ≡ bit_at rest j
  others_kept j apart =
      grind (arith, nat_tests, cases_lt, bit_at_and, pow-suc, pow_pos, less_is, mod_below, bit_at_cat_high, shr_split rest (suc b))

  lowest_before : (step : ℕ → Fix) (n : ℕ) → b < n
      → steps_below step (λ j. bit_at rest j == 1) n ≡ step b
      ∷ steps_below step (λ j. bit_at (bit_and rest (rest - 1)) j == 1) n
  lowest_before step zero inside = absurd (omega (arith, inside))
  lowest_before step (suc n) inside =
      let nothing = steps_none step (λ j. bit_at rest j == 1) 0 b in
      let left = steps_same step step (λ j. bit_at (bit_and rest (rest - 1)) j == 1) (λ j. bit_at rest j == 1) b in
      grind (arith, cases_eq b n, nothing, left, set, before, lowest_lost, λ (l : b < n). lowest_before step n l, others_kept)

-- the step of a word's lowest bit comes before the others'
pub lowest_first : (step : ℕ → Fix) (rest : ℕ) → 0 < rest → rest < 2 ^ 64
    → steps_below step (λ j. bit_at rest j == 1) 64 ≡ step (trailing_zeros w64 rest)
    ∷ steps_below step (λ j. bit_at (bit_and rest (rest - 1)) j == 1) 64
lowest_first step rest some fits =
    let found = bit_at-trailing_zeros w64 rest some fits in
    lowest_before rest (trailing_zeros w64 rest) found.1 found.2 step 64 found.0

-- no bit of zero is marked
pub zero_steps : (step : ℕ → Fix) → steps_below step (λ j. bit_at 0 j == 1) 64 ≡ []
zero_steps step = steps_none step (λ j. bit_at 0 j == 1) 0 64 (omega arith) (λ t _ _. ap (λ n. n == 1) (bit_at-zero t))

pub some_steps : (step : ℕ → Fix) (word : ℕ) → 0 < word → word < 2 ^ 64
    → 0 < length (steps_below step (λ j. bit_at word j == 1) 64)
some_steps step word some fits = omega (arith, ap length (lowest_first step word some fits))

-- the step of a word's lowest bit goes to a list, and the others' follow it
pub lowest_taken : (order : List Fix) (step : ℕ → Fix) (word : ℕ) → 0 < word → word < 2 ^ 64
    → with_steps (order ++ step (trailing_zeros w64 word) ∷ []) step (bit_and word (word - 1)) ≡ with_steps order step word
lowest_taken order step word some fits =
    let lowest = lowest_first step word some fits in
    append_assoc order _ _ ∙ ap (λ xs. order ++ xs) (sym lowest)

-- if no bit is left, a list that begins with another begins as before
pub none_taken : (order more : List Fix) (step : ℕ → Fix) (n : ℕ) → n ≤ length order
    → take n (with_steps (order ++ more) step 0) ≡ take n (with_steps order step 0)
none_taken order more step n le =
    rw (zero_steps step) (rw (append-nil order, append-nil (order ++ more)) (take-append-le n order more le))

-- marks that are another's below n, and none from n on
pub short_steps : (step step' : ℕ → Fix) (u v : ℕ → Bool) (n m : ℕ) → n ≤ m
    → ((j : ℕ) → j < n → u j ≡ true → step j ≡ step' j) → ((j : ℕ) → j < n → u j ≡ v j)
    → ((j : ℕ) → n ≤ j → u j ≡ false)
    → steps_below step u m ≡ steps_below step' v n
short_steps step step' u v n m few is same none = grind (arith, steps_none step u n m, steps_same step step' u v n)

pub few_ones : (word : ℕ) → word < 2 ^ 64 → count_ones word ≤ 64
few_ones word fits = omega (arith, ones_marked 64 word fits, marked-le (λ j. bit_at word j == 1) 64)

-- ---- rows whose positions follow one another

-- the steps of a number's row and of those after it
along : (i lane pos number j : ℕ) → i < 2 ^ 16 → lane + j < 2 ^ 16 → number ≡ step_number i lane pos
    → step_along number j ≡ record { row = i; lane = lane + j; pos = pos + j }
along i lane pos number j row short is = grind (arith, nat_tests)

module _ (i first z rotation start : ℕ) (row : i < 2 ^ 16) (few : z ≤ 384) (small : rotation < z) (early : start < z) where
  -- before the positions begin again
  along_first : (number j : ℕ) → number ≡ step_number i start (first + place_in z rotation start)
      → j < z - place_in z rotation start → step_in i first z rotation (start + j) ≡ step_along number j
  along_first number j is below = grind (arith, nat_tests, along i start (first + place_in z rotation start) number j row)

  -- and from there on, in rows of the block
  along_again : (number a j : ℕ) → a ≡ z - place_in z rotation start → number ≡ step_number i (start + a) first
      → start + (a + j) < z → step_in i first z rotation (start + (a + j)) ≡ step_along number j
  along_again number a j ahead is inside = grind (arith, nat_tests, along i (start + a) first number j row)

  module _ (word : ℕ) (fits : word < 2 ^ 64) (rows : (j : ℕ) → bit_at word j ≡ 1 → start + j < z) where
    abbrev step : ℕ → Fix
    step j = step_in i first z rotation (start + j)

    -- a word that is not split
    pub whole_steps : (order : List Fix) (number : ℕ) → number ≡ step_number i start (first + place_in z rotation start)
        → 64 ≤ z - place_in z rotation start
        → with_steps order (step_along number) word ≡ with_steps order (λ j. step_in i first z rotation (start + j)) word
    whole_steps order number is far =
        ap (λ xs. order ++ xs) (steps_same (step_along number) step (λ j. bit_at word j == 1) (λ j. bit_at word j == 1) 64
        (λ j below _. sym (along_first number j is (omega (arith, below, far)))) (λ _ _. refl))

    -- a word that is split
    pub parted_steps : (order : List Fix) (number again a low : ℕ) → a ≡ z - place_in z rotation start → a < 64
        → number ≡ step_number i start (first + place_in z rotation start) → again ≡ step_number i (start + a) first
        → ((j : ℕ) → j < a → bit_at low j ≡ bit_at word j) → ((j : ℕ) → a ≤ j → bit_at low j ≡ 0)
        → with_steps (with_steps order (step_along number) low) (step_along again) (word / 2 ^ a)
        ≡ with_steps order (λ j. step_in i first z rotation (start + j)) word
    parted_steps order number again a low ahead near is is' below above =
        let u = λ (j : ℕ). bit_at word j == 1 in
        let rest = 64 - a in
        let all : a + rest ≡ 64 = omega (arith, near) in
        let before = short_steps (step_along number) step (λ j. bit_at low j == 1) u a 64 (omega (arith, near))
        (λ j less _. sym (along_first number j is (omega (arith, less, ahead)))) (λ j less. ap (λ n. n == 1) (below j less))
        (λ j past. ap (λ n. n == 1) (above j past)) in
        let behind = short_steps (step_along again) (λ j. step (a + j)) (λ j. bit_at (word / 2 ^ a) j == 1)
        (λ j. u (a + j)) rest 64 (omega arith)
        (λ j less set. sym (along_again again a j ahead is' (rows (a + j) (sym (bit_at_shr word a j) ∙ eqb-true _ _ set))))
        (λ j less. ap (λ n. n == 1) (bit_at_shr word a j))
        (λ j past. ap (λ n. n == 1) (bit_at_shr word a j ∙ bit_at_above word 64 (a + j) fits (omega (arith, past)))) in
        rw (before, behind) (append_assoc order _ _ ∙ ap (λ xs. order ++ xs) (sym (rw all at (steps_append step u a rest))))

-- without a division the positions are the same
pub turned_steps : (row col z rotation : ℕ) (u : ℕ → Bool) → rotation < z
    → steps_below (step_in row (col * z) z rotation) u z ≡ steps_below (rotated_step z row col rotation) u z
turned_steps row col z rotation u small = steps_same (step_in row (col * z) z rotation) (rotated_step z row col rotation) u u z
    (λ t below _. grind (arith, nat_tests, mod-eq_of_lt, mod_high)) (λ _ _. refl)

-- ---- the words of a lane, one after another

module _ (step : ℕ → Fix) (lane : List ℕ) (size : ℕ) (clear : IsClear lane size) where
  -- a bit of a word is a row
  pub row_inside : (i b word : ℕ) → word ≡ get_or lane i 0 → word < 2 ^ 64 → bit_at word b ≡ 1 → 64 * i + b < size
  row_inside i b word is fits set =
      grind (arith, nat_tests, cases_lt, word_bit i b word lane is, clear (64 * i + b), bit_at_above word 64)

  pub word_steps : (old taken : List Fix) (i word : ℕ) → word ≡ get_or lane i 0
      → taken ≡ old ++ steps_below step (is_set lane) (64 * i)
      → taken ++ steps_below (λ b. step (64 * i + b)) (λ b. bit_at word b == 1) 64 ≡ old
      ++ steps_below step (is_set lane) (64 * (i + 1))
  word_steps old taken i word is so =
      let next : 64 * i + 64 ≡ 64 * (i + 1) = omega arith in
      let same = steps_same (λ b. step (64 * i + b)) (λ b. step (64 * i + b)) (λ b. bit_at word b == 1)
      (λ b. is_set lane (64 * i + b)) 64 (λ t _ _. refl) (λ b short. ap (λ n. n == 1) (word_bit i b word lane is short)) in
      rw (so, same) (append_assoc old _ _
      ∙ ap (λ xs. old ++ xs) (sym (rw next at (steps_append step (is_set lane) (64 * i) 64))))

  pub lane_room : (i k : ℕ) → i < k → length lane ≤ k
      → length (steps_below step (is_set lane) (64 * (i + 1))) ≤ marked_count (is_set lane) size
  lane_room i k below all =
      grind (arith, steps_count, marked_within (is_set lane) (64 * (i + 1)) (64 * k), counted_all k size lane all clear)

  pub lane_steps : (n : ℕ) → size ≤ n → steps_below step (is_set lane) n ≡ steps_below step (is_set lane) size
  lane_steps n le = steps_none step (is_set lane) size n le (λ t past _. ap (λ m. m == 1) (clear t past))

-- what closes the plain goals of src/bit_parallel/steps.rt
pub ruleset step_rules = (nat_tests, append-nil, length-append, marked-le, few_ones, steps_count, zero_steps, lane_steps)

-- ---- what the steps of marked rows fix, and from what sets they are accepted

-- a position is fixed if the only row whose step has it is marked
pub fixed_by_one : (step : ℕ → Fix) (u : ℕ → Bool) (q row : ℕ) (k : Bool) (n : ℕ)
    → ((t : ℕ) → t < n → ((step t).pos == q) ≡ (k && (row == t)))
    → is_fixed_by (steps_below step u n) q ≡ (nat_lt row n && (k && u row))
fixed_by_one step u q row k zero has = grind (arith, nat_tests)
fixed_by_one step u q row k (suc n) has = grind (
  arith,
  nat_tests,
  list_any-append,
  fixed_by_one step u q row k n (λ t below. has t (omega (arith, below))),
  has n (omega arith),
)

-- steps that a set accepts, each by itself, are accepted in turn from it and from any larger set
pub steps_accepted : (c : Checks) (K S : ℕ → Bool) (step : ℕ → Fix) (u : ℕ → Bool) (n : ℕ) → Within K S
    → ((t : ℕ) → t < n → u t ≡ true → accepts c K (step t) ≡ true)
    → all_accepted c S (steps_below step u n) ≡ true
steps_accepted c K S step u zero within each = refl
steps_accepted c K S step u (suc n) within each =
    let before = steps_accepted c K S step u n within (λ t h. each t (omega (arith, h))) in
    grind (arith, accepted_after, after_accepted, accepts_more c K, before, each n (omega arith))
