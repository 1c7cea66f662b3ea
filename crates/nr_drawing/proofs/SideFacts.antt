-- Words drawn by generators side by side.
use Rattle.std.proofs.{Common.cond, Common.max, Common.set, lemmas.Bool.cases_lt, lemmas.List.Sums.sum_by_push}
use Rattle.std.proofs.lemmas.{List.get_or-append_right, List.get_or_append_left, Nat.Bits.bit_at_above, Nat.Bits.bit_at_or}
use Rattle.std.specs.Int.{bit_not, w64}
use Rattle.nr_bitvec.proofs.BitFacts.{bit_at_mod, bit_at_mod_above, bit_at_not-one, bit_at_shl_high, bit_at_shl_low}
use Rattle.nr_bitvec.proofs.ListFacts.{range_with_len-add}
use Rattle.nr_drawing.proofs.Common.{Bool, IsAmong, Lcg, List, [], ap, append_assoc, arith, bit, bit_at, bit_or, cases_eq, count_by}
use Rattle.nr_drawing.proofs.Common.{first_words, get_or-set_other, get_or-set_same, inl, inr, length, marks_drawn, nat_lt}
use Rattle.nr_drawing.proofs.Common.{nat_tests, not, pcg32, range_with_len, refl, slice_index, suc, sym, zero, zero-add, ℕ}
use Rattle.nr_drawing.proofs.Common.{◌%◌, ◌*◌, ◌++◌, ◌+◌, ◌-◌, ◌<◌, ◌==◌, ◌^◌, ◌∙◌, ◌∷◌}
use Rattle.nr_drawing.{proofs.Common.◌≡◌, proofs.Common.◌≢◌, proofs.Common.◌≤◌, specs.Drawing.AreRounds}
use Rattle.nr_drawing.proofs.DrawnWordFacts.{length-marks_drawn, one-more}

-- the numbers of rounds differ, and are below 64
pub each_differs : (listed : List ℕ) → AreRounds listed → (i k : ℕ) → i < length listed → k < length listed → i ≢ k
    → slice_index listed i ≢ slice_index listed k
each_differs listed are i k below inside ne = elim (cases_lt i k) [
  | inl lt ↦ omega (arith, are.order i k lt inside)
  | inr le ↦ omega (arith, are.order k i (omega (arith, le, ne)) below)
]

pub among_few : (listed : List ℕ) (j : ℕ) → AreRounds listed → IsAmong listed j → j < 64
among_few listed j are is = omega (arith, are.few is.0 is.1.0, is.1.1)

-- a digit at place j of a word
shifted_other : (b j k : ℕ) → b ≤ 1 → j < 64 → k ≢ j → bit_at (b * 2 ^ j % 2 ^ 64) k ≡ 0
shifted_other b j k small short apart = elim (cases_lt k 64) [
  | inl low ↦ bit_at_mod (b * 2 ^ j) 64 k low ∙ elim (cases_lt k j) [
    | inl before ↦ bit_at_shl_low b j k before
    | inr after ↦ bit_at_shl_high b j k after ∙ bit_at_above b 1 (k - j) (omega (arith, small)) (omega (arith, after, apart))
  ]
  | inr past ↦ bit_at_mod_above (b * 2 ^ j) 64 k past
]

shifted_own : (b j : ℕ) → b ≤ 1 → j < 64 → bit_at (b * 2 ^ j % 2 ^ 64) j ≡ b
shifted_own b j small short =
    let none : j - j ≡ 0 = omega arith in
    bit_at_mod (b * 2 ^ j) 64 j short ∙ bit_at_shl_high b j j (omega arith) ∙ ap (bit_at b) none ∙ grind arith

-- one more digit
pub side_other : (word b j k : ℕ) → b ≤ 1 → j < 64 → k ≢ j → bit_at (bit_or word (b * 2 ^ j % 2 ^ 64)) k
    ≡ bit_at word k
side_other word b j k small short apart =
    bit_at_or word (b * 2 ^ j % 2 ^ 64) k ∙ ap (max (bit_at word k)) (shifted_other b j k small short apart) ∙ omega arith

pub side_own : (word b j : ℕ) → b ≤ 1 → j < 64 → bit_at word j ≡ 0 → bit_at (bit_or word (b * 2 ^ j % 2 ^ 64)) j ≡ b
side_own word b j small short clear =
    bit_at_or word (b * 2 ^ j % 2 ^ 64) j ∙ ap (max (bit_at word j)) (shifted_own b j small short)
    ∙ ap (λ n. max n b) clear ∙ omega arith

-- one more place of a generator: the marks so far, and what it draws next
pub next_more : (threshold m n : ℕ) (start now then : Lcg) → then ≡ (pcg32 now).1
    → ((k : ℕ) → marks_drawn threshold (m + k) start ≡ marks_drawn threshold m start ++ marks_drawn threshold k now)
    → marks_drawn threshold (m + 1 + n) start ≡ marks_drawn threshold (m + 1) start ++ marks_drawn threshold n then
unfolding first_words
next_more threshold m n start now then is told =
    let e : m + 1 + n ≡ m + suc n = omega arith in
    let more = one-more threshold n (pcg32 now).0 now then (ap (λ g. ((pcg32 now).0, g)) is) in
    let last = one-more threshold 0 (pcg32 now).0 now then (ap (λ g. ((pcg32 now).0, g)) is) in
    rw (e, told (suc n), more, told 1, last, append_assoc) refl

-- the mark of the place
pub mark_more : (threshold m k : ℕ) (start now : Lcg) (b : Bool) → b ≡ nat_lt (pcg32 now).0 threshold
    → ((n : ℕ) → marks_drawn threshold (m + n) start ≡ marks_drawn threshold m start ++ marks_drawn threshold n now)
    → k ≤ m
    → bit (marks_drawn threshold (m + 1) start) k ≡ cond (k == m) b (bit (marks_drawn threshold m start) k)
unfolding first_words
mark_more threshold m k start now b is told le =
    let last = one-more threshold 0 (pcg32 now).0 now (pcg32 now).1 refl in
    let whole : marks_drawn threshold (m + 1) start ≡ marks_drawn threshold m start ++ nat_lt (pcg32 now).0 threshold ∷ [] =
    told 1 ∙ ap (λ xs. marks_drawn threshold m start ++ xs) last in
    let long = length-marks_drawn threshold m start in
    rw whole (elim (cases_eq k m) [
      | inl e ↦ grind (arith, nat_tests, get_or-append_right, is)
      | inr ne ↦ grind (arith, nat_tests, get_or_append_left)
    ])

pub none_drawn : (threshold n : ℕ) (g : Lcg) → marks_drawn threshold (0 + n) g
    ≡ marks_drawn threshold 0 g ++ marks_drawn threshold n g
unfolding first_words
none_drawn threshold n g = rw zero-add refl

-- a word's place after one more
pub arrived_more : (arrived : List ℕ) (threshold m j k word : ℕ) (start now : Lcg) → j < 64 → word < 2 ^ 64
    → m < length arrived
    → (bit_at word j == 1) ≡ nat_lt (pcg32 now).0 threshold
    → ((n : ℕ) → marks_drawn threshold (m + n) start ≡ marks_drawn threshold m start ++ marks_drawn threshold n now)
    → (k < m → (bit_at (slice_index arrived k) j == 1) ≡ not (bit (marks_drawn threshold m start) k)) → k < m + 1
    → (bit_at (slice_index (set arrived m (bit_not w64 word)) k) j == 1) ≡ not (bit (marks_drawn threshold (m + 1) start) k)
arrived_more arrived threshold m j k word start now short fits inside is told before lt =
    let more = mark_more threshold m k start now (bit_at word j == 1) is told (omega (arith, lt)) in
    elim (cases_eq k m) [
      | inl e ↦
          let own : (bit_at word j == 1) ≡ bit (marks_drawn threshold (m + 1) start) k = grind (arith, nat_tests, more) in
          ap (λ i. bit_at (slice_index (set arrived m (bit_not w64 word)) i) j == 1) e
          ∙ ap (λ w. bit_at w j == 1) (get_or-set_same arrived m (bit_not w64 word) 0 inside)
          ∙ bit_at_not-one word j fits short ∙ ap not own
      | inr ne ↦ ap (λ w. bit_at w j == 1) (get_or-set_other arrived m k (bit_not w64 word) 0 ne)
          ∙ before (omega (arith, lt, ne)) ∙ ap not (sym (more ∙ grind (arith, nat_tests)))
    ]

-- ---- how many places are drawn

pub counted_more : (u : ℕ → Bool) (n : ℕ) → count_by u (range_with_len 0 (n + 1))
    ≡ count_by u (range_with_len 0 n) + cond (u n) 1 0
counted_more u n =
    let more : count_by u (range_with_len 0 (n + 1)) ≡ count_by u (range_with_len 0 n) + cond (u (0 + n)) 1 0 =
    rw (range_with_len-add 0 n 1) (sum_by_push (λ k. cond (u k) 1 0) (range_with_len 0 n) (0 + n)) in
    grind (arith, more)

counted_same : (u v : ℕ → Bool) (n : ℕ) → ((k : ℕ) → k < n → u k ≡ v k)
    → count_by u (range_with_len 0 n) ≡ count_by v (range_with_len 0 n)
counted_same u v zero same = refl
counted_same u v (suc n) same =
    let before = counted_same u v n (λ k lt. same k (omega (arith, lt))) in
    grind (arith, counted_more u n, counted_more v n, before, same n (omega arith))

-- one more place is counted if it is drawn
pub counted_next : (threshold m : ℕ) (start now : Lcg) (b : Bool) (old new : ℕ) → b ≡ nat_lt (pcg32 now).0 threshold
    → ((n : ℕ) → marks_drawn threshold (m + n) start ≡ marks_drawn threshold m start ++ marks_drawn threshold n now)
    → old ≡ count_by (bit (marks_drawn threshold m start)) (range_with_len 0 m) → new ≡ old + cond b 1 0
    → new ≡ count_by (bit (marks_drawn threshold (m + 1) start)) (range_with_len 0 (m + 1))
counted_next threshold m start now b old new is told before now_is =
    let each = λ (k : ℕ) (le : k ≤ m). mark_more threshold m k start now b is told le in
    let same = counted_same (bit (marks_drawn threshold (m + 1) start)) (bit (marks_drawn threshold m start)) m
    (λ k lt. each k (omega (arith, lt)) ∙ grind (arith, nat_tests)) in
    let last : bit (marks_drawn threshold (m + 1) start) m ≡ b = each m (omega arith) ∙ grind (arith, nat_tests) in
    grind (arith, counted_more (bit (marks_drawn threshold (m + 1) start)) m, same, last, before, now_is)
