-- Marks drawn one after another, gathered in a word as the negative of the number that they write, the first mark
-- highest.
use Rattle.std.proofs.{Common.add-one, Common.suc-add, Math.Nat.two-pow-succ}
use Rattle.nr_bitvec.proofs.{OctetListFacts.bit-number_of, OctetListFacts.number_of-lt, PackedListFacts.bit-low_first}
use Rattle.nr_bitvec.{proofs.PlaceFacts.same_from_bits, specs.BitList.number_of}
use Rattle.rand_pcg.specs.Lcg.{state_after}
use Rattle.nr_drawing.proofs.Common.{Bool, Lcg, List, [], advance, ap, append_assoc, arith, bit, bit_at, false, first_words}
use Rattle.nr_drawing.proofs.Common.{from_bool, length, length-low_first, low_first, marks_drawn, multiplier_64, nat_lt, nat_tests}
use Rattle.nr_drawing.proofs.Common.{pcg32, refl, suc, sym, true, zero, zero-add, ℕ, ◌%◌, ◌*◌, ◌++◌, ◌+◌, ◌-◌}
use Rattle.nr_drawing.proofs.Common.{◌<◌, ◌==◌, ◌^◌, ◌∙◌, ◌∷◌, ◌≡◌, ◌≤◌}

-- the marks of more words begin with those of fewer
pub marks-split : (threshold m n : ℕ) (g : Lcg)
    → marks_drawn threshold (m + n) g ≡ marks_drawn threshold m g ++ marks_drawn threshold n (advance 64 multiplier_64 m g)
unfolding first_words state_after
marks-split threshold zero n g = rw zero-add refl
marks-split threshold (suc m) n g =
    rw suc-add (ap (λ (l : List Bool). nat_lt (pcg32 g).0 threshold ∷ l) (marks-split threshold m n (pcg32 g).1))

pub length-marks_drawn : (threshold n : ℕ) (g : Lcg) → length (marks_drawn threshold n g) ≡ n
unfolding first_words
length-marks_drawn threshold zero g = refl
length-marks_drawn threshold (suc n) g = ap suc (length-marks_drawn threshold n (pcg32 g).1)

pub one-more : (threshold n word : ℕ) (g h : Lcg) → (word, h) ≡ pcg32 g
    → marks_drawn threshold (suc n) g ≡ nat_lt word threshold ∷ marks_drawn threshold n h
unfolding first_words
one-more threshold n word g h drawn = sym (ap (λ (p : ℕ × Lcg). nat_lt p.0 threshold ∷ marks_drawn threshold n p.1) drawn)

-- one more bit at the end of a number
number_of-more : (n : ℕ) (bits : List Bool) (b : Bool) → length bits ≡ n
    → number_of (suc n) (bits ++ b ∷ []) ≡ 2 * number_of n bits + from_bool b
number_of-more zero [] true long = refl
number_of-more zero [] false long = refl
number_of-more zero (a ∷ bits) b long = absurd (omega (arith, long))
number_of-more (suc n) [] b long = absurd (omega (arith, long))
number_of-more (suc n) (true ∷ bits) b long = omega (arith, number_of-more n bits b (omega (arith, long)), two-pow-succ n)
number_of-more (suc n) (false ∷ bits) b long = omega (arith, number_of-more n bits b (omega (arith, long)))

-- the generator has drawn n marks from `start` on, which are in the word
pub record Gathers (threshold n word : ℕ) (start now : Lcg) : Type 0 where
  pub told : (k : ℕ) → marks_drawn threshold (n + k) start ≡ marks_drawn threshold n start ++ marks_drawn threshold k now
  pub negative : (word + number_of n (marks_drawn threshold n start)) % 2 ^ 64 ≡ 0

pub gathers-none : (threshold : ℕ) (g : Lcg) → Gathers threshold 0 0 g g
unfolding first_words
gathers-none threshold g = record { told = λ k. rw zero-add refl; negative = refl }

-- one more draw
module _ (threshold n word digit drawn : ℕ) (start now then : Lcg) (draws : (drawn, then) ≡ pcg32 now)
    (told : digit ≡ from_bool (nat_lt drawn threshold)) (before : Gathers threshold n word start now) where
  last : marks_drawn threshold (n + 1) start ≡ marks_drawn threshold n start ++ nat_lt drawn threshold ∷ []
  unfolding first_words
  last = before.told 1 ∙ ap (λ (l : List Bool). marks_drawn threshold n start ++ l) (one-more threshold 0 drawn now then draws)

  told-more : (k : ℕ)
      → marks_drawn threshold (n + 1 + k) start ≡ marks_drawn threshold (n + 1) start ++ marks_drawn threshold k then
  told-more k =
      let e : n + 1 + k ≡ n + suc k = omega arith in
      rw (e, before.told (suc k), one-more threshold k drawn now then draws, last, append_assoc) refl

  number-more : number_of (n + 1) (marks_drawn threshold (n + 1) start) ≡ 2 * number_of n (marks_drawn threshold n start) + digit
  number-more = rw (
    last,
    add-one,
    number_of-more n (marks_drawn threshold n start) (nat_lt drawn threshold) (length-marks_drawn threshold n start),
    told,
  ) refl

  pub gathers-more : Gathers threshold (n + 1) ((word * 2 % 2 ^ 64 + (2 ^ 64 - digit)) % 2 ^ 64) start then
  gathers-more =
      let few : digit ≤ 1 = grind (arith, nat_tests) in
      record { told = told-more; negative = omega (arith, number-more, few, before.negative) }

-- the negative of a whole word, reversed, has the marks
module _ (threshold word turned negative : ℕ) (start now : Lcg) (whole : Gathers threshold 64 word start now)
    (fits : negative < 2 ^ 64) (sum : (negative + word) % 2 ^ 64 ≡ 0)
    (turns : (j : ℕ) → j < 64 → bit_at turned j ≡ bit_at negative (63 - j)) where
  number : negative ≡ number_of 64 (marks_drawn threshold 64 start)
  number = omega (arith, fits, sum, whole.negative, number_of-lt 64 (marks_drawn threshold 64 start))

  mark-here : (j : ℕ) → j < 64 → (bit_at turned j == 1) ≡ bit (marks_drawn threshold 64 start) j
  mark-here j inside =
      let e : 64 - 1 - (63 - j) ≡ j = omega (arith, inside) in
      rw (turns j inside, number, bit-number_of 64 (marks_drawn threshold 64 start) (63 - j) (omega arith), e) refl

  marks : low_first 64 turned ≡ marks_drawn threshold 64 start
  marks = grind (arith, same_from_bits, length-low_first, bit-low_first, length-marks_drawn, mark-here)

  pub gathered : (n : ℕ) → low_first 64 turned ++ marks_drawn threshold n now ≡ marks_drawn threshold (64 + n) start
  gathered n = rw marks (sym (whole.told n))
