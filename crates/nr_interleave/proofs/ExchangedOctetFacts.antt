-- Eight words whose octets alternate, and back.
use Rattle.nr_interleave.proofs.Common.{◌≡◌, List, slice_index_or as get_or, get_or-take, get_or-drop, bit_at_mod, bit_at_shr}
use Rattle.nr_interleave.proofs.Common.{ℕ, ◌+◌, ◌-◌, ◌*◌, ◌/◌, ◌∷◌, ◌++◌, ◌∙◌, mul_comm, cases_lt}
use Rattle.nr_interleave.proofs.Common.{◌%◌, ◌^◌, ◌<◌, inl, inr, [], length, take, drop, refl, sym, ap, arith, bit_at}
use Rattle.std.{proofs.Common.zero, proofs.Common.suc, specs.Simd.Lanes.Each1, specs.Simd.Lanes.digits_l, specs.Simd.Lanes.number_l}
use Rattle.std.proofs.{Math.Nat.mul-suc, lemmas.List.get_or_append_left, lemmas.List.get_or-append_right}
use Rattle.std.proofs.lemmas.Nat.Bits.{bit_at-zero, bit_at_cat_high, bit_at_cat_low}

-- ---- numbers and their lanes of w bits

-- a bit of a lane of a number
lane-bit : (w n x k j : ℕ) → k < n → j < w → bit_at (get_or (digits_l (2 ^ w) n x) k 0) j ≡ bit_at x (w * k + j)
lane-bit w zero x k j in_lanes in_lane = absurd (omega (arith, in_lanes))
lane-bit w (suc n) x zero j in_lanes in_lane = bit_at_mod x w j in_lane ∙ ap (bit_at x) (omega arith)
lane-bit w (suc n) x (suc k) j in_lanes in_lane =
    lane-bit w n (x / 2 ^ w) k j (omega (arith, in_lanes)) in_lane ∙ bit_at_shr x w (w * k + j)
    ∙ ap (bit_at x) (omega (arith, mul-suc w k))

-- a bit of the number of lanes
number-bit : (w : ℕ) (xs : List ℕ) (k j : ℕ) → Each1 (λ x. x < 2 ^ w) xs → j < w
    → bit_at (number_l (2 ^ w) xs) (w * k + j) ≡ bit_at (get_or xs k 0) j
number-bit w [] k j fit in_lane = bit_at-zero (w * k + j) ∙ sym (bit_at-zero j)
number-bit w (x ∷ xs) zero j fit in_lane =
    let cat : x + 2 ^ w * number_l (2 ^ w) xs ≡ number_l (2 ^ w) xs * 2 ^ w + x =
    omega (arith, mul_comm (2 ^ w) (number_l (2 ^ w) xs)) in
    let at : w * 0 + j ≡ j = omega arith in
    ap (λ n. bit_at n (w * 0 + j)) cat
    ∙ ap (bit_at (number_l (2 ^ w) xs * 2 ^ w + x)) at ∙ bit_at_cat_low (number_l (2 ^ w) xs) w x j in_lane
number-bit w (x ∷ xs) (suc k) j fit in_lane =
    let cat : x + 2 ^ w * number_l (2 ^ w) xs ≡ number_l (2 ^ w) xs * 2 ^ w + x =
    omega (arith, mul_comm (2 ^ w) (number_l (2 ^ w) xs)) in
    ap (λ n. bit_at n (w * suc k + j)) cat
    ∙ bit_at_cat_high (number_l (2 ^ w) xs) w x (w * suc k + j) fit.0 (omega (arith, mul-suc w k))
    ∙ ap (bit_at (number_l (2 ^ w) xs)) (omega (arith, mul-suc w k))
    ∙ number-bit w xs k j fit.1 in_lane

-- ---- eight words, and their octets in two halves

-- the octets of four words
abbrev octets_of_four : List ℕ → List ℕ
octets_of_four words = digits_l (2 ^ 8) 32 (number_l (2 ^ 64) words)

octet-bit : (words : List ℕ) (p j : ℕ) → Each1 (λ x. x < 2 ^ 64) words → p < 32 → j < 8
    → bit_at (get_or (octets_of_four words) p 0) j ≡ bit_at (get_or words (p / 8) 0) (8 * (p % 8) + j)
octet-bit words p j fit in_octets in_octet =
    lane-bit 8 32 (number_l (2 ^ 64) words) p j in_octets in_octet
    ∙ ap (bit_at (number_l (2 ^ 64) words)) (omega arith)
    ∙ number-bit 64 words (p / 8) (8 * (p % 8) + j) fit (omega (arith, in_octet))

pub octets-bit : (words low high : List ℕ) (p j : ℕ) → Each1 (λ x. x < 2 ^ 64) low → Each1 (λ x. x < 2 ^ 64) high
    → low ≡ take 4 words → high ≡ take 4 (drop 4 words) → p < 64 → j < 8
    → bit_at (get_or (octets_of_four low ++ octets_of_four high) p 0) j ≡ bit_at (get_or words (p / 8) 0) (8 * (p % 8) + j)
octets-bit words low high p j fit fit-too first second in_octets in_octet = elim (cases_lt p 32) [
  | inl before ↦
      ap (λ o. bit_at o j) (get_or_append_left (octets_of_four low) (octets_of_four high) 0 p before)
      ∙ octet-bit low p j fit before in_octet
      ∙ ap (λ w. bit_at w (8 * (p % 8) + j)) (ap (λ ws. get_or ws (p / 8) 0) first
      ∙ get_or-take 4 words (p / 8) 0 (omega (arith, before)))
  | inr later ↦
      let there : 4 + (p - 32) / 8 ≡ p / 8 = omega (arith, later) in
      let place : (p - 32) % 8 ≡ p % 8 = omega (arith, later) in
      ap (λ o. bit_at o j) (get_or-append_right (octets_of_four low) (octets_of_four high) 32 p 0 refl later)
      ∙ octet-bit high (p - 32) j fit-too (omega (arith, in_octets, later)) in_octet
      ∙ ap (λ w. bit_at w (8 * ((p - 32) % 8) + j)) (ap (λ ws. get_or ws ((p - 32) / 8) 0) second
      ∙ get_or-take 4 (drop 4 words) ((p - 32) / 8) 0 (omega (arith, in_octets, later)) ∙ get_or-drop 4 words ((p - 32) / 8) 0)
      ∙ ap (λ n. bit_at (get_or words n 0) (8 * ((p - 32) % 8) + j)) there
      ∙ ap (λ n. bit_at (get_or words (p / 8) 0) (8 * n + j)) place
]

-- the words of 32 octets
abbrev four_words_of : List ℕ → List ℕ
four_words_of octets = digits_l (2 ^ 64) 4 (number_l (2 ^ 8) octets)

word-bit : (octets : List ℕ) (k j : ℕ) → Each1 (λ x. x < 2 ^ 8) octets → k < 4 → j < 64
    → bit_at (get_or (four_words_of octets) k 0) j ≡ bit_at (get_or octets (8 * k + j / 8) 0) (j % 8)
word-bit octets k j fit in_words in_word =
    lane-bit 64 4 (number_l (2 ^ 8) octets) k j in_words in_word
    ∙ ap (bit_at (number_l (2 ^ 8) octets)) (omega arith) ∙ number-bit 8 octets (8 * k + j / 8) (j % 8) fit (omega arith)

pub words-bit : (low high : List ℕ) (k j : ℕ) → Each1 (λ x. x < 2 ^ 8) low → Each1 (λ x. x < 2 ^ 8) high
    → length low ≡ 32 → k < 8 → j < 64
    → bit_at (get_or (four_words_of low ++ four_words_of high) k 0) j ≡ bit_at (get_or (low ++ high) (8 * k + j / 8) 0) (j % 8)
words-bit low high k j fit fit-too long in_words in_word = elim (cases_lt k 4) [
  | inl before ↦
      ap (λ w. bit_at w j) (get_or_append_left (four_words_of low) (four_words_of high) 0 k before)
      ∙ word-bit low k j fit before in_word
      ∙ ap (λ o. bit_at o (j % 8)) (sym (get_or_append_left low high 0 (8 * k + j / 8) (omega (arith, before, in_word, long))))
  | inr later ↦
      let there : 8 * (k - 4) + j / 8 ≡ 8 * k + j / 8 - 32 = omega (arith, later) in
      ap (λ w. bit_at w j) (get_or-append_right (four_words_of low) (four_words_of high) 4 k 0 refl later)
      ∙ word-bit high (k - 4) j fit-too (omega (arith, in_words, later)) in_word
      ∙ ap (λ n. bit_at (get_or high n 0) (j % 8)) there
      ∙ ap (λ o. bit_at o (j % 8)) (sym (get_or-append_right low high 32 (8 * k + j / 8) 0 long (omega (arith, later))))
]

-- ---- steps after which halves alternate

-- octets of two halves that alternate
pub record TookTurns (before after : List ℕ) : Type 0 where
  pub turned : (p : ℕ) → p < 64 → get_or after p 0 ≡ get_or before (32 * (p % 2) + p / 2) 0

-- three steps exchange the halves of an index
pub three-turns : (a b c d : List ℕ) (k i : ℕ) → TookTurns a b → TookTurns b c → TookTurns c d → k < 8 → i < 8
    → get_or d (8 * k + i) 0 ≡ get_or a (8 * i + k) 0
three-turns a b c d k i first second third in_words in_word =
    let p : ℕ = 8 * k + i in
    let q : ℕ = 32 * ((8 * k + i) % 2) + (8 * k + i) / 2 in
    let r : ℕ = 32 * (q % 2) + q / 2 in
    let exchanged : 32 * (r % 2) + r / 2 ≡ 8 * i + k = omega (arith, in_words, in_word) in
    third.turned p (omega (arith, in_words, in_word)) ∙ second.turned q (omega (arith, in_words, in_word))
    ∙ first.turned r (omega (arith, in_words, in_word)) ∙ ap (λ n. get_or a n 0) exchanged
