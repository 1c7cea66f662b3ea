-- What a word of up to 64 positions becomes if more is heard: bit by bit, and put into the lists that it is of.
use Rattle.nr_harqbuf.proofs.Common.{nat_tests, ◌≡◌, ℕ, ◌+◌, ◌-◌, ◌^◌, ◌<◌, ◌≤◌, ◌==◌, ◌&&◌}
use Rattle.nr_harqbuf.proofs.Common.{◌||◌, ◌⊎◌, inl, inr, Bool, true, false, not, List, ap, sym, ◌∙◌, arith, length}
use Rattle.nr_harqbuf.proofs.Common.{bit_at, bit_not, w64, bit_and, bit_or, bit_xor, and_lt, xor_lt, cases_lt, and_parts, and_from}
use Rattle.nr_harqbuf.proofs.Common.{eqb-true, eq-eqb, ◌⊕◌, bit, get_or_past, cond, Some, None, refl}
use Rattle.nr_harqbuf.specs.inside.Words.{bit_in}
use Rattle.std.specs.Option.{option_or}
use Rattle.std.proofs.lemmas.Nat.Bits.{bit_at-lt, bit_at-zero, bit_at_and, bit_at_or, bit_at_xor, bit_at_not, same_from_bits_below}

-- ---- bits of words, as truth values

abbrev pub on : ℕ → ℕ → Bool
on n j = bit_at n j == 1

zero_or_one : (x : ℕ) → x < 2 → (x ≡ 0) ⊎ (x ≡ 1)
zero_or_one x h = elim (cases_lt x 1) [ inl low ↦ inl (omega (arith, low)) | inr high ↦ inr (omega (arith, high, h)) ]

pub on-and : (a b j : ℕ) → on (bit_and a b) j ≡ (on a j && on b j)
on-and a b j = grind (arith, nat_tests, bit_at_and, zero_or_one, bit_at-lt)

pub on-or : (a b j : ℕ) → on (bit_or a b) j ≡ (on a j || on b j)
on-or a b j = grind (arith, nat_tests, bit_at_or, zero_or_one, bit_at-lt)

pub on-xor : (a b j : ℕ) → on (bit_xor a b) j ≡ (on a j ⊕ on b j)
on-xor a b j = grind (arith, nat_tests, bit_at_xor, zero_or_one, bit_at-lt)

pub on-not : (n j : ℕ) → n < 2 ^ 64 → j < 64 → on (bit_not w64 n) j ≡ not (on n j)
on-not n j fits below = ap (λ m. m == 1) (bit_at_not w64 n j fits below)
    ∙ other (bit_at n j) (zero_or_one (bit_at n j) (bit_at-lt n j))
  where
    other : (x : ℕ) → (x ≡ 0) ⊎ (x ≡ 1) → (1 - x == 1) ≡ not (x == 1)
    other x bit = grind arith

-- a word without bits is 0
pub word-zero : (n : ℕ) → n < 2 ^ 64 → ((j : ℕ) → j < 64 → on n j ≡ false) → n ≡ 0
word-zero n fits none = same_from_bits_below 64 n 0 fits (omega arith)
    (λ j h. off (bit_at n j) (zero_or_one (bit_at n j) (bit_at-lt n j)) (none j h) ∙ sym (bit_at-zero j))
  where
    off : (x : ℕ) → (x ≡ 0) ⊎ (x ≡ 1) → (x == 1) ≡ false → x ≡ 0
    off x bit h = grind (arith, nat_tests)

pub zero-none : (n j : ℕ) → n ≡ 0 → on n j ≡ false
zero-none n j e = ap (λ m. on m j) e ∙ ap (λ m. m == 1) (bit_at-zero j)

same-sum : (a b : Bool) → (a ⊕ b) ≡ false → b ≡ a
same-sum a b h = grind arith

no-sum : (a b : Bool) → b ≡ a → (a ⊕ b) ≡ false
no-sum a b h = grind arith

-- ---- a position whose mark is h and whose bit is v, heard with mark n and bit b

-- its bit after that: the first one stays
first_bits : (h v n b : Bool) → cond (h || n) (Some (v ⊕ ((n && not h) && (v ⊕ b)))) None
    ≡ option_or (cond h (Some v) None) (cond n (Some b) None)
first_bits h v n b = grind arith

-- it is heard again, with the other bit
clash_bits : (h v n b : Bool) → ((n && h) && (v ⊕ b)) ≡ false → h ≡ true → n ≡ true → b ≡ v
clash_bits h v n b quiet marked again = grind arith

quiet_bits : (h v n b : Bool) → (h ≡ true → n ≡ true → b ≡ v) → ((n && h) && (v ⊕ b)) ≡ false
quiet_bits h v false b same = refl
quiet_bits false v true b same = refl
quiet_bits true v true b same = no-sum v b (same refl refl)

pub news-word : (before now j : ℕ) → before < 2 ^ 64 → j < 64
    → on (bit_and now (bit_not w64 before)) j ≡ (on now j && not (on before j))
news-word before now j fits h = on-and now (bit_not w64 before) j ∙ ap (λ t. on now j && t) (on-not before j fits h)

pub first-word : (before old now bits j : ℕ) → before < 2 ^ 64 → j < 64
    → bit_in (bit_or before now) (bit_xor old (bit_and (bit_and now (bit_not w64 before)) (bit_xor old bits))) j
    ≡ option_or (bit_in before old j) (bit_in now bits j)
first-word before old now bits j fits h = grind (arith, on-or, on-xor, on-and, news-word, first_bits)

clash-word : (before old now bits j : ℕ)
    → on (bit_and (bit_and now before) (bit_xor old bits)) j ≡ ((on now j && on before j) && (on old j ⊕ on bits j))
clash-word before old now bits j = grind (arith, on-and, on-xor)

pub zero-agrees : (before old now bits : ℕ) → bit_and (bit_and now before) (bit_xor old bits) ≡ 0
    → (j : ℕ) → j < 64 → on before j ≡ true → on now j ≡ true → on bits j ≡ on old j
zero-agrees before old now bits zero j lt marked again =
    clash_bits (on before j) (on old j) (on now j) (on bits j)
    (sym (clash-word before old now bits j) ∙ zero-none (bit_and (bit_and now before) (bit_xor old bits)) j zero) marked again

pub agrees-zero : (before old now bits : ℕ) → bit_and (bit_and now before) (bit_xor old bits) < 2 ^ 64
    → ((j : ℕ) → j < 64 → on before j ≡ true → on now j ≡ true → on bits j ≡ on old j)
    → bit_and (bit_and now before) (bit_xor old bits) ≡ 0
agrees-zero before old now bits fits same = word-zero (bit_and (bit_and now before) (bit_xor old bits)) fits
    (λ j lt. clash-word before old now bits j ∙ quiet_bits (on before j) (on old j) (on now j) (on bits j) (same j lt))

-- ---- lists of bits

-- a word replaces the `count` bits from bit `at` on
pub record IsPut (old new : List Bool) (at count word : ℕ) : Type 0 where
  pub within : (t : ℕ) → t < count → bit new (at + t) ≡ on word t
  pub before : (t : ℕ) → t < at → bit new t ≡ bit old t
  pub after : (t : ℕ) → at + count ≤ t → bit new t ≡ bit old t

pub put-in : (old new : List Bool) (at count word p : ℕ) → IsPut old new at count word → at ≤ p → p < at + count
    → bit new p ≡ on word (p - at)
put-in old new at count word p put from below = grind arith

-- a word has the bits from bit `at` on
pub read-at : (xs : List Bool) (at word p : ℕ) → ((j : ℕ) → j < 64 → on word j ≡ bit xs (at + j)) → at ≤ p
    → p < at + 64 → on word (p - at) ≡ bit xs p
read-at xs at word p reads from below = grind arith

-- what the word of differences has at a position
differs-at : (h v w j : ℕ) → on (bit_and h (bit_xor v w)) j ≡ (on h j && (on v j ⊕ on w j))
differs-at h v w j = on-and h (bit_xor v w) j ∙ ap (λ t. on h j && t) (on-xor v w j)

-- 64 more positions
pub agrees-more : (heard value word : List Bool) (at next h v w : ℕ) (agreed : Bool) → next ≡ at + 64
    → ((j : ℕ) → j < 64 → on h j ≡ bit heard (at + j)) → ((j : ℕ) → j < 64 → on v j ≡ bit value (at + j))
    → ((j : ℕ) → j < 64 → on w j ≡ bit word (at + j))
    → (agreed ≡ true → (p : ℕ) → p < at → bit heard p ≡ true → bit word p ≡ bit value p)
    → (agreed && (bit_and h (bit_xor v w) == 0)) ≡ true → (p : ℕ) → p < next → bit heard p ≡ true
    → bit word p ≡ bit value p
agrees-more heard value word at next h v w agreed e reads_h reads_v reads_w so_far both p below marked =
    let parts = and_parts agreed (bit_and h (bit_xor v w) == 0) both in
    elim (cases_lt p at) [
      | inl low ↦ so_far parts.0 p low marked
      | inr from ↦
          let here : p < at + 64 = omega (arith, e, below) in
          let none : (on h (p - at) && (on v (p - at) ⊕ on w (p - at))) ≡ false = sym (differs-at h v w (p - at))
          ∙ zero-none (bit_and h (bit_xor v w)) (p - at) (eqb-true (bit_and h (bit_xor v w)) 0 parts.1) in
          let mark : on h (p - at) ≡ true = read-at heard at h p reads_h from here ∙ marked in
          let same : (on v (p - at) ⊕ on w (p - at)) ≡ false = sym (ap (λ t. t && (on v (p - at) ⊕ on w (p - at))) mark)
          ∙ none in
          sym (read-at word at w p reads_w from here) ∙ same-sum (on v (p - at)) (on w (p - at)) same
          ∙ read-at value at v p reads_v from here
    ]

pub agrees-always : (heard value word : List Bool) (at h v w : ℕ) (agreed : Bool) → h < 2 ^ 64 → v < 2 ^ 64 → w < 2 ^ 64
    → ((j : ℕ) → j < 64 → on h j ≡ bit heard (at + j)) → ((j : ℕ) → j < 64 → on v j ≡ bit value (at + j))
    → ((j : ℕ) → j < 64 → on w j ≡ bit word (at + j))
    → ((p : ℕ) → bit heard p ≡ true → bit word p ≡ bit value p) → agreed ≡ true
    → (agreed && (bit_and h (bit_xor v w) == 0)) ≡ true
agrees-always heard value word at h v w agreed fits_h fits_v fits_w reads_h reads_v reads_w agree so_far =
    and_from agreed (bit_and h (bit_xor v w) == 0) so_far
    (eq-eqb (bit_and h (bit_xor v w)) 0
    (word-zero (bit_and h (bit_xor v w)) (and_lt 64 h (bit_xor v w) fits_h (xor_lt 64 v w fits_v fits_w)) none))
  where
    none : (j : ℕ) → j < 64 → on (bit_and h (bit_xor v w)) j ≡ false
    none j lt = grind (arith, differs-at, no-sum)

-- no position is marked past the end
pub agrees-all : (heard value word : List Bool) (k : ℕ) (agreed : Bool) → length heard ≤ k
    → (agreed ≡ true → (p : ℕ) → p < k → bit heard p ≡ true → bit word p ≡ bit value p) → agreed ≡ true
    → (p : ℕ) → bit heard p ≡ true → bit word p ≡ bit value p
agrees-all heard value word k agreed long so_far agrees p marked = grind (arith, nat_tests, cases_lt, get_or_past)
