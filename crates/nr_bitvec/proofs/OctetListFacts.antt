-- The bits of octets, and the octets of bits.
use Rattle.nr_bitvec.proofs.Common.{rules, ◌≡◌, ℕ, ◌+◌, ◌-◌, ◌*◌, ◌/◌, ◌%◌, inl, inr, ◌^◌, ◌<◌}
use Rattle.nr_bitvec.proofs.Common.{◌≤◌, ◌==◌, suc, zero, Bool, true, false, if◌then◌else◌, List, [], ◌∷◌}
use Rattle.nr_bitvec.proofs.Common.{length, get_or, take, drop, refl, ap, sym, ◌∙◌, arith, length-append, length-drop}
use Rattle.nr_bitvec.proofs.Common.{get_or-drop, nat_tests, cases_lt, true≢false, false≢true, get_or_append_left}
use Rattle.nr_bitvec.proofs.Common.{get_or-append_right, drop-drop, pow_pos, mod_below, and_mask, bit_and, bit_at-lt, bit_at-zero}
use Rattle.nr_bitvec.proofs.Common.{bit_at_cat_low, bit_at_cat_high, bit_at_above, same_from_bits_below, bit_at, bit, octet_place}
use Rattle.nr_bitvec.proofs.{Common.octet_bits, Common.bits_of, Common.number_of, Common.octets_of, BitFacts.bit_at_mod}
use Rattle.std.proofs.{Common.one-mul, Math.Nat.two-pow-succ, lemmas.List.nil_from_length}

-- an octet has eight bits
pub length-octet_bits : (o : ℕ) → length (octet_bits o) ≡ 8
unfolding octet_bits
length-octet_bits o = refl

-- octets have eight bits each
pub length-bits_of : (octets : List ℕ) → length (bits_of octets) ≡ 8 * length octets
length-bits_of [] = refl
length-bits_of (o ∷ octets) = grind (arith, length-append, length-octet_bits, length-bits_of octets)

-- n bits write a number below 2 ^ n
pub number_of-lt : (n : ℕ) (bits : List Bool) → number_of n bits < 2 ^ n
number_of-lt zero bits = omega arith
number_of-lt (suc n) [] = pow_pos (suc n)
number_of-lt (suc n) (true ∷ bits) = omega (arith, number_of-lt n bits, two-pow-succ n)
number_of-lt (suc n) (false ∷ bits) = omega (arith, number_of-lt n bits, two-pow-succ n)

-- ---- one octet after another makes the list of octets

-- the first octet, of the first eight bits, and the octets that follow it
octets_of-step : (bits : List Bool) → 0 < length bits → octets_of bits ≡ number_of 8 (take 8 bits) ∷ octets_of (drop 8 bits)
unfolding octets_of
octets_of-step [] h = absurd (omega (arith, h))
octets_of-step (a ∷ []) h = refl
octets_of-step (a ∷ b ∷ []) h = refl
octets_of-step (a ∷ b ∷ c ∷ []) h = refl
octets_of-step (a ∷ b ∷ c ∷ d ∷ []) h = refl
octets_of-step (a ∷ b ∷ c ∷ d ∷ e ∷ []) h = refl
octets_of-step (a ∷ b ∷ c ∷ d ∷ e ∷ f ∷ []) h = refl
octets_of-step (a ∷ b ∷ c ∷ d ∷ e ∷ f ∷ g ∷ []) h = refl
octets_of-step (a ∷ b ∷ c ∷ d ∷ e ∷ f ∷ g ∷ h ∷ bits) k = refl

-- ---- the octets by their places

-- the bits of one octet
octet_bit : (o t : ℕ) → t < 8 → get_or (octet_bits o) t false ≡ (bit_at o (7 - t) == 1)
unfolding octet_bits
octet_bit o zero h = refl
octet_bit o (suc zero) h = refl
octet_bit o (suc (suc zero)) h = refl
octet_bit o (suc (suc (suc zero))) h = refl
octet_bit o (suc (suc (suc (suc zero)))) h = refl
octet_bit o (suc (suc (suc (suc (suc zero))))) h = refl
octet_bit o (suc (suc (suc (suc (suc (suc zero)))))) h = refl
octet_bit o (suc (suc (suc (suc (suc (suc (suc zero))))))) h = refl
octet_bit o (suc (suc (suc (suc (suc (suc (suc (suc t)))))))) h = absurd (omega (arith, h))

-- a bit of octets is a place of them, past the end too
pub bit-bits_of : (octets : List ℕ) (t : ℕ) → bit (bits_of octets) t ≡ (octet_place octets t == 1)
bit-bits_of [] t = sym (ap (λ k. k == 1) (bit_at-zero (7 - t % 8)))
bit-bits_of (o ∷ octets) t = grind (
  arith,
  nat_tests,
  cases_lt,
  get_or_append_left,
  length-octet_bits,
  octet_bit,
  get_or-append_right,
  bit-bits_of octets (t - 8),
)

-- a bit of the number that n bits write
pub bit-number_of : (n : ℕ) (bits : List Bool) (j : ℕ) → j < n → (bit_at (number_of n bits) j == 1) ≡ bit bits (n - 1 - j)
bit-number_of zero bits j h = absurd (omega (arith, h))
bit-number_of (suc n) [] j h = ap (λ k. k == 1) (bit_at-zero j)
bit-number_of (suc n) (true ∷ bits) j h =
    elim (cases_lt j n) [
      | inl low ↦
          let i : suc (n - 1 - j) ≡ suc n - 1 - j = omega (arith, low) in
          ap (λ k. bit_at (k + number_of n bits) j == 1) (sym (one-mul (2 ^ n)))
          ∙ ap (λ k. k == 1) (bit_at_cat_low 1 n (number_of n bits) j low) ∙ bit-number_of n bits j low
          ∙ ap (bit (true ∷ bits)) i
      | inr top ↦
          let i : 0 ≡ suc n - 1 - j = omega (arith, h, top) in
          let z : j - n ≡ 0 = omega (arith, h, top) in
          ap (λ k. bit_at (k + number_of n bits) j == 1) (sym (one-mul (2 ^ n)))
          ∙ ap (λ k. k == 1) (bit_at_cat_high 1 n (number_of n bits) j (number_of-lt n bits) top)
          ∙ ap (λ k. bit_at 1 k == 1) z ∙ ap (bit (true ∷ bits)) i
    ]
bit-number_of (suc n) (false ∷ bits) j h =
    elim (cases_lt j n) [
      | inl low ↦
          let i : suc (n - 1 - j) ≡ suc n - 1 - j = omega (arith, low) in
          let e : 0 + number_of n bits ≡ number_of n bits = omega arith in
          ap (λ k. bit_at k j == 1) e ∙ bit-number_of n bits j low ∙ ap (bit (false ∷ bits)) i
      | inr top ↦
          let i : 0 ≡ suc n - 1 - j = omega (arith, h, top) in
          let e : 0 + number_of n bits ≡ number_of n bits = omega arith in
          ap (λ k. bit_at k j == 1) e ∙ ap (λ k. k == 1) (bit_at_above (number_of n bits) n j (number_of-lt n bits) top)
          ∙ ap (bit (false ∷ bits)) i
    ]

-- two bits are equal if one test has the same result for both
pub same_bit : (a b : ℕ) → a < 2 → b < 2 → (a == 1) ≡ (b == 1) → a ≡ b
same_bit zero zero h g e = refl
same_bit zero (suc zero) h g e = absurd (false≢true e)
same_bit (suc zero) zero h g e = absurd (true≢false e)
same_bit (suc zero) (suc zero) h g e = refl
same_bit (suc (suc a)) b h g e = absurd (omega (arith, h))
same_bit a (suc (suc b)) h g e = absurd (omega (arith, g))

-- an octet is the number that eight bits write, if it has their bits
pub number_of-is : (o : ℕ) (bits : List Bool) → o < 2 ^ 8 → ((j : ℕ) → j < 8 → (bit_at o j == 1) ≡ bit bits (7 - j))
    → o ≡ number_of 8 bits
number_of-is o bits fits same = search (rules, same_from_bits_below, number_of-lt, same_bit, bit_at-lt, bit-number_of)

-- the octet of a window whose first eight bits are reversed
pub octet-window : (window n at : ℕ) (bits : List Bool)
    → ((j : ℕ) → j < 64 → (bit_at window j == 1) ≡ bit bits (at + j))
    → ((j : ℕ) → j < 64 → bit_at n j ≡ bit_at window (8 * (j / 8) + (7 - j % 8)))
    → bit_and n 255 ≡ number_of 8 (drop at bits)
octet-window window n at bits reads turns =
    and_mask n 8 ∙ number_of-is (n % 2 ^ 8) (drop at bits) (mod_below n (2 ^ 8) (pow_pos 8))
    (λ j h.
    let e : 8 * (j / 8) + (7 - j % 8) ≡ 7 - j = omega (arith, h) in
    ap (λ k. k == 1) (bit_at_mod n 8 j h ∙ turns j (omega (arith, h)) ∙ ap (bit_at window) e) ∙ reads (7 - j) (omega arith)
    ∙ sym (get_or-drop at bits (7 - j) false))

-- the first n bits alone write the number
number_of-take : (n : ℕ) (bits : List Bool) → number_of n (take n bits) ≡ number_of n bits
number_of-take zero bits = refl
number_of-take (suc n) [] = refl
number_of-take (suc n) (b ∷ bits) = ap (λ k. (if b then 2 ^ n else 0) + k) (number_of-take n bits)

-- octet i of a list of bits
pub octets_of-octet : (i : ℕ) (bits : List Bool) → 8 * i < length bits
    → get_or (octets_of bits) i 0 ≡ number_of 8 (drop (8 * i) bits)
octets_of-octet zero bits h = ap (λ (os : List ℕ). get_or os 0 0) (octets_of-step bits (omega (arith, h)))
    ∙ number_of-take 8 bits
octets_of-octet (suc i) bits h =
    let e : 8 + 8 * i ≡ 8 * suc i = omega arith in
    ap (λ (os : List ℕ). get_or os (suc i) 0) (octets_of-step bits (omega (arith, h)))
    ∙ octets_of-octet i (drop 8 bits) (omega (arith, h, length-drop 8 bits))
    ∙ ap (number_of 8) (drop-drop (8 * i) 8 bits) ∙ ap (λ k. number_of 8 (drop k bits)) e

none : length (octets_of []) ≡ 0
unfolding octets_of
none = refl

-- how many octets a list of bits needs, n of them or fewer
length-octets_of_at : (n : ℕ) (bits : List Bool) → length bits ≤ 8 * n → length (octets_of bits) ≡ (length bits + 7) / 8
length-octets_of_at zero bits h = ap (λ (b : List Bool). length (octets_of b)) (nil_from_length bits (omega (arith, h))) ∙ none
    ∙ omega (arith, h)
length-octets_of_at (suc n) [] h = none
length-octets_of_at (suc n) (b ∷ bits) h = grind (
  arith,
  octets_of-step,
  length-octets_of_at n (drop 8 (b ∷ bits)) (omega (arith, h, length-drop 8 (b ∷ bits))),
  length-drop,
)

pub length-octets_of : (bits : List Bool) → length (octets_of bits) ≡ (length bits + 7) / 8
length-octets_of bits = length-octets_of_at (length bits) bits (omega arith)
