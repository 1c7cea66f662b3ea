-- What two lists of marks keep after a word of up to 64 positions was merged into them.
use Rattle.nr_harqbuf.proofs.Common.{nat_tests, ◌≡◌, ℕ, ◌+◌, ◌-◌, ◌<◌, ◌≤◌, ◌&&◌, ◌||◌, inl, inr}
use Rattle.nr_harqbuf.proofs.Common.{Bool, true, false, not, cond, List, refl, sym, ◌∙◌, arith, beq, and_parts, cases_lt}
use Rattle.nr_harqbuf.proofs.Common.{true≢false, bit, marked_bit, marks_with, Option, Some, None}
use Rattle.nr_harqbuf.proofs.MarkWordFacts.{on, IsPut, put-in, read-at}
use Rattle.nr_harqbuf.specs.{Marks.says, Marks.word_bit, Marks.word_says, inside.Words.bit_in}
use Rattle.std.specs.Option.{option_or}
use Rattle.std.proofs.{Math.Bool.and-false, lemmas.Bool.le-leb, lemmas.Bool.lt-leb, lemmas.Bool.lt-ltb, lemmas.Bool.le-ltb}

-- a word has no bit for other positions
pub word_bit-below : (at count now bits p : ℕ) → p < at → word_bit at count now bits p ≡ None
word_bit-below at count now bits p h = grind (arith, nat_tests, lt-leb)

pub word_bit-above : (at count now bits p : ℕ) → at + count ≤ p → word_bit at count now bits p ≡ None
word_bit-above at count now bits p h = grind (arith, nat_tests, le-ltb, and-false)

pub word_bit-in : (at count now bits p : ℕ) → at ≤ p → p < at + count
    → word_bit at count now bits p ≡ cond (on now (p - at)) (Some (on bits (p - at))) None
word_bit-in at count now bits p from below = grind (arith, nat_tests, le-leb, lt-ltb)

-- what a word says is of its own positions
pub word_says-range : (at count now bits p : ℕ) (b : Bool) → word_says at count now bits p b ≡ true
    → (at ≤ p) × (p < at + count)
word_says-range at count now bits p b said = (grind (arith, nat_tests, and_parts), grind (arith, nat_tests, and_parts))

pub word_says-in : (at count now bits p : ℕ) (b : Bool) → at ≤ p → p < at + count
    → word_says at count now bits p b ≡ (on now (p - at) && beq (on bits (p - at)) b)
word_says-in at count now bits p b from below = grind (arith, nat_tests, le-leb, lt-ltb)

-- a marked position keeps its bit
pub kept_bits : (h v h' v' : Bool) (w : Option Bool) → cond h' (Some v') None ≡ option_or (cond h (Some v) None) w
    → h ≡ true → (h' ≡ true) × (v' ≡ v)
kept_bits h v h' v' w first marked = (grind arith, grind arith)

-- a position is not heard again with the other bit exactly if what is heard there contradicts nothing that was said
agreed_bits : (h v n b : Bool) → ((x : Bool) → (n && beq b x) ≡ true → (h && beq v (not x)) ≡ false)
    → h ≡ true → n ≡ true → b ≡ v
agreed_bits h true n true agree marked again = refl
agreed_bits h false n false agree marked again = refl
agreed_bits h true n false agree marked again = grind (arith, agree false)
agreed_bits h false n true agree marked again = grind (arith, agree true)

bits_agreed : (h v n b x : Bool) → (h ≡ true → n ≡ true → b ≡ v) → (n && beq b x) ≡ true
    → (h && beq v (not x)) ≡ false
bits_agreed false v n b x same said = refl
bits_agreed true v false b x same said = grind arith
bits_agreed true v true b x same said = grind (arith, same refl refl)

-- it says then what it said, and what is heard
same_bits : (h v n b h' v' x : Bool) → cond h' (Some v') None ≡ option_or (cond h (Some v) None) (cond n (Some b) None)
    → (h ≡ true → n ≡ true → b ≡ v) → (h' && beq v' x) ≡ ((h && beq v x) || (n && beq b x))
same_bits false v n b h' v' x first same = grind arith
same_bits true v false b h' v' x first same = grind arith
same_bits true v true b h' v' x first same = grind (arith, same refl refl)

pub says_bits : (h v n b h' v' x : Bool) → cond h' (Some v') None ≡ option_or (cond h (Some v) None) (cond n (Some b) None)
    → ((y : Bool) → (n && beq b y) ≡ true → (h && beq v (not y)) ≡ false)
    → (h' && beq v' x) ≡ ((h && beq v x) || (n && beq b x))
says_bits h v n b h' v' x first agree = same_bits h v n b h' v' x first (agreed_bits h v n b agree)

-- words of up to 64 positions of two lists, before and after more was received of them
module _ (heard value : List Bool) (at count before old now low bits : ℕ) (few : count ≤ 64)
    (reads : (j : ℕ) → j < 64 → on before j ≡ bit heard (at + j))
    (reads_old : (j : ℕ) → j < 64 → on old j ≡ bit value (at + j))
    (lows : (j : ℕ) → j < count → on low j ≡ on now j) where
  -- each position has its first bit
  pub merge-first : (heard' value' : List Bool) (marks words : ℕ)
      → ((j : ℕ) → j < 64 → bit_in marks words j ≡ option_or (bit_in before old j) (bit_in low bits j))
      → IsPut heard heard' at count marks → IsPut value value' at count words
      → (p : ℕ) → marked_bit (marks_with heard' value') p
      ≡ option_or (marked_bit (marks_with heard value) p) (word_bit at count now bits p)
  merge-first heard' value' marks words first put put_value p =
      elim (cases_lt p at) [
        | inl below ↦ other (put.before p below) (put_value.before p below) (word_bit-below at count now bits p below)
        | inr from ↦ elim (cases_lt p (at + count)) [
          | inr above ↦ other (put.after p above) (put_value.after p above) (word_bit-above at count now bits p above)
          | inl below ↦
              let word : p < at + 64 = omega (arith, below, few) in
              rw (
                put-in heard heard' at count marks p put from below,
                put-in value value' at count words p put_value from below,
                word_bit-in at count now bits p from below,
                ← read-at heard at before p reads from word,
                ← read-at value at old p reads_old from word,
                ← lows (p - at) (omega (arith, from, below)),
              ) (first (p - at) (omega (arith, from, word)))
        ]
      ]
    where
      other : bit heard' p ≡ bit heard p → bit value' p ≡ bit value p → word_bit at count now bits p ≡ None
          → marked_bit (marks_with heard' value') p
          ≡ option_or (marked_bit (marks_with heard value) p) (word_bit at count now bits p)
      other mark value none = grind arith

  -- what is received contradicts nothing that was said, if no bit is received again as the other one
  pub quiet-agrees : ((j : ℕ) → j < 64 → on before j ≡ true → on low j ≡ true → on bits j ≡ on old j)
      → (p : ℕ) (b : Bool) → word_says at count now bits p b ≡ true → says (marks_with heard value) p (not b) ≡ false
  quiet-agrees quiet p b said =
      let range = word_says-range at count now bits p b said in
      let word : p < at + 64 = omega (arith, range.1, few) in
      bits_agreed (bit heard p) (bit value p) (on now (p - at)) (on bits (p - at)) b
      (λ marked again. quiet (p - at) (omega (arith, range.0, word)) (read-at heard at before p reads range.0 word ∙ marked)
      (lows (p - at) (omega (arith, range)) ∙ again) ∙ read-at value at old p reads_old range.0 word)
      (sym (word_says-in at count now bits p b range.0 range.1) ∙ said)

  -- and the reverse
  pub agrees-quiet : ((j : ℕ) → count ≤ j → j < 64 → on low j ≡ false)
      → ((p : ℕ) (b : Bool) → word_says at count now bits p b ≡ true → says (marks_with heard value) p (not b) ≡ false)
      → (j : ℕ) → j < 64 → on before j ≡ true → on low j ≡ true → on bits j ≡ on old j
  agrees-quiet highs agree j lt marked again = elim (cases_lt j count) [
    | inr past ↦ absurd (true≢false (sym again ∙ highs j past lt))
    | inl within ↦
        let back : (at + j) - at ≡ j = omega arith in
        let from : at ≤ at + j = omega arith in
        let below : at + j < at + count = omega (arith, within) in
        agreed_bits (on before j) (on old j) (on low j) (on bits j)
        (λ x said. rw (reads j lt, reads_old j lt) (agree (at + j) x
        (word_says-in at count now bits (at + j) x from below ∙ rw (back, ← lows j within) said))) marked again
  ]
