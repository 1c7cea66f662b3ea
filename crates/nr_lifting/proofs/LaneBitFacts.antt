-- Lanes in words, word by word, and how many bits they have.
use Rattle.nr_lifting.proofs.Names.{IsClear, bit_and, bit_not, inl, ◌%◌, ◌&&◌, ◌*◌, ◌+◌, ◌-◌, ◌/◌, ◌==◌}
use Rattle.nr_lifting.proofs.Names.{ap, arith, bit_at, get_or, is_set, length, ◌<◌, ◌^◌, pow-suc, pow_pos, bit_xor, min-one}
use Rattle.nr_lifting.proofs.Names.{bit_at-zero, bit_at_and, bit_at_not, bit_at_xor, length-set, nat_tests, place-zeros, place_past}
use Rattle.nr_lifting.proofs.Names.{cases_eq, cases_lt, place_of, replicate, ◌∙◌, ◌≡◌, ◌≤◌, ◌⊕◌, div_below}
use Rattle.nr_lifting.proofs.Names.{get_or-set_other, if◌then◌else◌, mod_below, place-set_other, place-set_same, marked_count}
use Rattle.nr_lifting.proofs.Names.{Bool, List, false, inr, min, not, place, refl, set, suc, sym, w64, zero, ℕ}
use Rattle.nr_lifting.proofs.LaneViewFacts.{place-lt, rest_bits, sum_bits}
use Rattle.std.{proofs.Common.add-suc, proofs.lemmas.Nat.div-add-mod', proofs.lemmas.Nat.ones_cat, specs.Int.RustNames.count_ones}
use Rattle.std.proofs.lemmas.Nat.Bits.{bit_at_cat_low, same_from_bits_below}

-- The places of the first n words are those that G gives them, and the others are the old ones.
pub record IsMade (n : ℕ) (G : ℕ → ℕ) (now old : List ℕ) : Type 0 where
  pub done : (t : ℕ) → t < 64 * n → place now t ≡ G t
  pub kept : (w : ℕ) → n ≤ w → get_or now w 0 ≡ get_or old w 0
  pub long : length now ≡ length old

pub made_next : (n : ℕ) (G : ℕ → ℕ) (next now old : List ℕ) (word : ℕ) → IsMade n G now old → n < length now
    → next ≡ set now n word
    → ((j : ℕ) → j < 64 → bit_at word j ≡ G (64 * n + j)) → IsMade (n + 1) G next old
made_next n G next now old word h within put are =
    grind (arith, cases_eq, place-set_same, place-set_other, get_or-set_other, length-set)

-- two more words are made
pub made_two : (n m : ℕ) (G : ℕ → ℕ) (now old : List ℕ) (v w : ℕ) → IsMade n G now old → m ≡ n + 1 + 1
    → n + 1 < length now → ((j : ℕ) → j < 64 → bit_at v j ≡ G (64 * n + j))
    → ((j : ℕ) → j < 64 → bit_at w j ≡ G (64 * (n + 1) + j))
    → IsMade m G (set (set now n v) (n + 1) w) old
made_two n m G now old v w h is within are next =
    let one = made_next n G (set now n v) now old v h (omega (arith, within)) refl are in
    rw is (made_next (n + 1) G (set (set now n v) (n + 1) w) (set now n v) old w one
    (omega (arith, within, length-set now n v)) refl next)

-- the place of a word that is still the old one
pub word_bit : (n j word : ℕ) (ws : List ℕ) → word ≡ get_or ws n 0 → j < 64 → bit_at word j ≡ place ws (64 * n + j)
word_bit n j word ws is short = ap (λ w. bit_at w j) is ∙ sym (place_of ws (64 * n + j) n j refl short)

-- a word without a set place is zero
pub zero_word : (ws : List ℕ) (k : ℕ) → get_or ws k 0 < 2 ^ 64 → ((t : ℕ) → is_set ws t ≡ false)
    → get_or ws k 0 ≡ 0
zero_word ws k fits none =
    same_from_bits_below 64 (get_or ws k 0) 0 fits (omega arith)
    (λ j short. grind (arith, nat_tests, none (64 * k + j), word_bit k j (get_or ws k 0) ws refl short, place-lt, bit_at-zero))

-- if all words are made, and G gives the others what they have
pub made_whole : (n : ℕ) (G : ℕ → ℕ) (now old : List ℕ) → IsMade n G now old
    → ((t : ℕ) → 64 * n ≤ t → G t ≡ place old t) → (t : ℕ) → place now t ≡ G t
made_whole n G now old h rest t = grind (arith, nat_tests, cases_lt)

-- a lane's words and another's, word by word
module _ (old lane : List ℕ) where
  pub added_bit : (i j w v : ℕ) → w ≡ get_or old i 0 → v ≡ get_or lane i 0 → j < 64
      → bit_at (bit_xor w v) j ≡ (place old (64 * i + j) + place lane (64 * i + j)) % 2
  added_bit i j w v is with short = omega (arith, bit_at_xor w v j, word_bit i j w old is short, word_bit i j v lane with short)

  pub common_bit : (i j w v : ℕ) → w ≡ get_or old i 0 → v ≡ get_or lane i 0 → j < 64
      → bit_at (bit_and w v) j ≡ min (place old (64 * i + j)) (place lane (64 * i + j))
  common_bit i j w v is with short = omega (arith, bit_at_and w v j, word_bit i j w old is short, word_bit i j v lane with short)

  pub without_bit : (i j w v : ℕ) → w ≡ get_or old i 0 → v ≡ get_or lane i 0 → v < 2 ^ 64 → j < 64
      → bit_at (bit_and w (bit_not w64 v)) j ≡ min (place old (64 * i + j)) (1 - place lane (64 * i + j))
  without_bit i j w v is with fits short =
      omega (
        arith,
        bit_at_and w (bit_not w64 v) j,
        bit_at_not w64 v j fits short,
        word_bit i j w old is short,
        word_bit i j v lane with short,
      )

-- a lane that has no bit from a place on has none from a later one
pub clear-later : (n m : ℕ) (lane : List ℕ) → IsClear lane n → n ≤ m → IsClear lane m
clear-later n m lane clear le t past = clear t (omega (arith, le, past))

-- and if all words of the lane are made
module _ (n : ℕ) (now old lane : List ℕ) (few : length lane ≤ n)
    (h : IsMade n (λ t. (place old t + place lane t) % 2) now old) where
  added : (t : ℕ) → place now t ≡ (place old t + place lane t) % 2
  added = made_whole n (λ t. (place old t + place lane t) % 2) now old h
      (λ t out. omega (arith, place_past lane t (omega (arith, few, out)), place-lt old t))

  pub added_all : (t : ℕ) → is_set now t ≡ is_set old t ⊕ is_set lane t
  added_all t = ap (λ m. m == 1) (added t) ∙ sum_bits (place old t) (place lane t) (place-lt old t) (place-lt lane t)

  pub added_clear : (z : ℕ) → IsClear old z → IsClear lane z → IsClear now z
  added_clear z one other t past = omega (arith, added t, one t past, other t past)

-- or, in zeros, all words of a first lane
module _ (n k : ℕ) (now lane other : List ℕ) (few : length lane ≤ n) where
  module _ (h : IsMade n (λ t. min (place lane t) (place other t)) now (replicate k 0)) where
    both : (t : ℕ) → place now t ≡ min (place lane t) (place other t)
    both = made_whole n (λ t. min (place lane t) (place other t)) now (replicate k 0) h
        (λ t out. omega (arith, place_past lane t (omega (arith, few, out)), place-zeros k t))

    pub common_all : (t : ℕ) → is_set now t ≡ (is_set lane t && is_set other t)
    common_all t = ap (λ m. m == 1) (both t) ∙ min-one (place lane t) (place other t) (place-lt lane t) (place-lt other t)

    pub common_clear : (z : ℕ) → IsClear lane z → IsClear now z
    common_clear z one t past = omega (arith, both t, one t past)

  module _ (h : IsMade n (λ t. min (place lane t) (1 - place other t)) now (replicate k 0)) where
    less : (t : ℕ) → place now t ≡ min (place lane t) (1 - place other t)
    less = made_whole n (λ t. min (place lane t) (1 - place other t)) now (replicate k 0) h
        (λ t out. omega (arith, place_past lane t (omega (arith, few, out)), place-zeros k t))

    pub without_all : (t : ℕ) → is_set now t ≡ (is_set lane t && not (is_set other t))
    without_all t = ap (λ m. m == 1) (less t) ∙ rest_bits (place lane t) (place other t) (place-lt lane t) (place-lt other t)

    pub without_clear : (z : ℕ) → IsClear lane z → IsClear now z
    without_clear z one t past = omega (arith, less t, one t past)

-- ---- counts

ones_below : (n : ℕ) → n < 2 → count_ones n ≡ (if n == 1 then 1 else 0)
unfolding count_ones
ones_below zero h = refl
ones_below (suc zero) h = refl
ones_below (suc (suc n)) h = absurd (omega (arith, h))

pub marked-same : (u v : ℕ → Bool) (n : ℕ) → ((t : ℕ) → t < n → u t ≡ v t) → marked_count u n ≡ marked_count v n
marked-same u v zero same = refl
marked-same u v (suc n) same = grind (arith, marked-same u v n (λ t h. same t (omega (arith, h))), same n (omega arith))

pub marked-append : (u : ℕ → Bool) (a b : ℕ)
    → marked_count u (a + b) ≡ marked_count u a + marked_count (λ j. u (a + j)) b
marked-append u a zero = grind arith
marked-append u a (suc b) = rw add-suc (omega (arith, marked-append u a b))

pub marked-none : (u : ℕ → Bool) (a b : ℕ) → ((t : ℕ) → a ≤ t → u t ≡ false) → a ≤ b
    → marked_count u b ≡ marked_count u a
marked-none u a zero none le = grind arith
marked-none u a (suc b) none le = elim (cases_eq a (suc b)) [
  | inl e ↦ ap (marked_count u) (sym e)
  | inr apart ↦ rw (none b (omega (arith, le, apart))) (omega (arith, marked-none u a b none (omega (arith, le, apart))))
]

pub marked-le : (u : ℕ → Bool) (n : ℕ) → marked_count u n ≤ n
marked-le u zero = omega arith
marked-le u (suc n) = grind (arith, marked-le u n)

-- the ones of a number are its digits that are set
pub ones_marked : (k n : ℕ) → n < 2 ^ k → count_ones n ≡ marked_count (λ j. bit_at n j == 1) k
ones_marked zero n h = ap count_ones {y = 0} (omega (arith, h)) ∙ ones_below 0 (omega arith)
ones_marked (suc k) n h =
    let p = 2 ^ k in
    let a = n / p in
    let r = n % p in
    let whole_is : n ≡ a * p + r = sym (div-add-mod' n p) in
    let small : r < p = mod_below n p (pow_pos k) in
    let top : a < 2 = div_below n p 2 (pow_pos k) (omega (arith, pow-suc 2 k, h)) in
    let digit : bit_at n k ≡ a = omega (arith, top) in
    let same = marked-same (λ j. bit_at r j == 1) (λ j. bit_at n j == 1) k
    (λ j below. ap (λ m. m == 1) (sym (bit_at_cat_low a k r j below) ∙ ap (λ m. bit_at m j) (sym whole_is))) in
    rw digit (omega (arith, ap count_ones whole_is, ones_cat k a r small, ones_below a top, ones_marked k r small, same))

-- the bits of one more word are counted
pub counted_more : (i count word : ℕ) (lane : List ℕ) → word ≡ get_or lane i 0 → word < 2 ^ 64
    → count ≡ marked_count (is_set lane) (64 * i)
    → count + count_ones word ≡ marked_count (is_set lane) (64 * (i + 1))
counted_more i count word lane is fits before =
    let next : 64 * i + 64 ≡ 64 * (i + 1) = omega arith in
    ap (λ m. m + count_ones word) before
    ∙ ap (λ m. marked_count (is_set lane) (64 * i) + m) (ones_marked 64 word fits
    ∙ marked-same (λ j. bit_at word j == 1) (λ j. is_set lane (64 * i + j)) 64
    (λ j short. ap (λ m. m == 1) (word_bit i j word lane is short)))
    ∙ sym (marked-append (is_set lane) (64 * i) 64) ∙ ap (marked_count (is_set lane)) next

-- the bits of a lane that is clear from place n on are below it
pub counted_all : (k n : ℕ) (lane : List ℕ) → length lane ≤ k → IsClear lane n
    → marked_count (is_set lane) (64 * k) ≡ marked_count (is_set lane) n
counted_all k n lane few clear = grind (arith, nat_tests, cases_lt, marked-none, place_past)
