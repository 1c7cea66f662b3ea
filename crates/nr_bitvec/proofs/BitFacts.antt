-- The bits of shifted and cut numbers, and the places of packed words.
use Rattle.nr_bitvec.proofs.Common.{◌≡◌, bit_at-zero, bit_at_cat_low, bit_at_cat_high, bit_at_above, bit_at_and, get_or_past}
use Rattle.nr_bitvec.proofs.Common.{◌+◌, ◌-◌, ◌*◌, ◌/◌, ◌%◌, ◌^◌, ◌<◌, ◌&&◌, ap, and_mask, cases_lt}
use Rattle.nr_bitvec.proofs.Common.{◌≤◌, ◌⊎◌, ◌==◌, ◌||◌, ◌∙◌, mod_below, bit_at_or, bit_at-lt, nat_tests}
use Rattle.nr_bitvec.proofs.Common.{ℕ, inl, inr, max, List, length, get_or, sym, arith, pow_pos, bit_at, w64, bit_or, place}
use Rattle.nr_bitvec.proofs.NumberFacts.{max-one, min-one}
use Rattle.std.proofs.{Common.not, Common.add-zero, lemmas.Nat.shr-shr, lemmas.Nat.shr_split, lemmas.Nat.one_shl}
use Rattle.std.{proofs.lemmas.Nat.Bits.bit_at_not, specs.Int.bit_not}
use lib.Bits.{bit_and}

-- ---- bits of numbers

pub or-one : (a b p : ℕ) → (bit_at (bit_or a b) p == 1) ≡ ((bit_at a p == 1) || (bit_at b p == 1))
or-one a b p = ap (λ k. k == 1) (bit_at_or a b p) ∙ max-one (bit_at a p) (bit_at b p) (bit_at-lt a p) (bit_at-lt b p)

pub and-one : (a b p : ℕ) → (bit_at (bit_and a b) p == 1) ≡ ((bit_at a p == 1) && (bit_at b p == 1))
and-one a b p = ap (λ k. k == 1) (bit_at_and a b p) ∙ min-one (bit_at a p) (bit_at b p) (bit_at-lt a p) (bit_at-lt b p)

-- `n >> k`
pub bit_at_shr : (n k j : ℕ) → bit_at (n / 2 ^ k) j ≡ bit_at n (k + j)
bit_at_shr n k j = ap (λ q. q % 2) (shr-shr n k j)

-- `n << k`
pub bit_at_shl_low : (n k j : ℕ) → j < k → bit_at (n * 2 ^ k) j ≡ 0
bit_at_shl_low n k j h =
    ap (λ m. bit_at m j) (sym (add-zero (n * 2 ^ k))) ∙ bit_at_cat_low n k 0 j h ∙ bit_at-zero j

pub bit_at_shl_high : (n k j : ℕ) → k ≤ j → bit_at (n * 2 ^ k) j ≡ bit_at n (j - k)
bit_at_shl_high n k j h =
    ap (λ m. bit_at m j) (sym (add-zero (n * 2 ^ k))) ∙ bit_at_cat_high n k 0 j (pow_pos k) h

-- the w lowest bits
pub bit_at_mod : (n w j : ℕ) → j < w → bit_at (n % 2 ^ w) j ≡ bit_at n j
bit_at_mod n w j h = sym (bit_at_cat_low (n / 2 ^ w) w (n % 2 ^ w) j h) ∙ ap (λ m. bit_at m j) (shr_split n w)

pub bit_at_mod_above : (n w j : ℕ) → w ≤ j → bit_at (n % 2 ^ w) j ≡ 0
bit_at_mod_above n w j h = bit_at_above (n % 2 ^ w) w j (mod_below n (2 ^ w) (pow_pos w)) h

-- `n & ((1 << k) - 1)` of a word
pub low_mask : (n k : ℕ) → k < 64 → bit_and n (1 * 2 ^ k % 2 ^ 64 - 1) ≡ n % 2 ^ k
low_mask n k h = ap (λ m. bit_and n (m - 1)) (one_shl k 64 h) ∙ and_mask n k

-- `!n` of a word
pub bit_at_not-one : (n j : ℕ) → n < 2 ^ 64 → j < 64 → (bit_at (bit_not w64 n) j == 1) ≡ not (bit_at n j == 1)
bit_at_not-one n j fits inside = grind (arith, nat_tests, bit_at-lt n j, bit_at_not w64 n j fits inside)

-- ---- places of words

-- a place is a bit of a word
pub place_of : (ws : List ℕ) (t w s : ℕ) → t ≡ 64 * w + s → s < 64 → place ws t ≡ bit_at (get_or ws w 0) s
place_of ws t w s e h = grind arith

-- no place is set past the last word
pub place_past : (ws : List ℕ) (t : ℕ) → 64 * length ws ≤ t → place ws t ≡ 0
place_past ws t h = grind (arith, get_or_past, bit_at-zero)

-- ---- what the words' calls read

-- the low bits of a word
pub low_bits-low : (n k j : ℕ) → k < 64 → j < k → bit_at (bit_and n (1 * 2 ^ k % 2 ^ 64 - 1)) j ≡ bit_at n j
low_bits-low n k j h b = ap (λ m. bit_at m j) (low_mask n k h) ∙ bit_at_mod n k j b

pub low_bits-high : (n k j : ℕ) → k < 64 → k ≤ j → bit_at (bit_and n (1 * 2 ^ k % 2 ^ 64 - 1)) j ≡ 0
low_bits-high n k j h b = ap (λ m. bit_at m j) (low_mask n k h) ∙ bit_at_mod_above n k j b

-- a word that is moved down by `turn`, if it has all places or no word follows
pub window-last : (ws : List ℕ) (w turn j : ℕ) → get_or ws w 0 < 2 ^ 64 → turn < 64 → j < 64
    → (turn ≡ 0) ⊎ (length ws ≤ w + 1) → bit_at (get_or ws w 0 / 2 ^ turn) j ≡ place ws (64 * w + turn + j)
window-last ws w turn j fits h b last =
    elim (cases_lt (turn + j) 64) [
      | inl here ↦ bit_at_shr (get_or ws w 0) turn j ∙ sym (place_of ws (64 * w + turn + j) w (turn + j) (omega arith) here)
      | inr past ↦ bit_at_shr (get_or ws w 0) turn j ∙ bit_at_above (get_or ws w 0) 64 (turn + j) fits past ∙ sym (elim last [
        | inl none ↦ absurd (omega (arith, none, past, b))
        | inr end ↦ place_past ws (64 * w + turn + j) (omega (arith, end, past))
      ])
    ]

-- two words, the second moved up by what is missing
pub window-both : (ws : List ℕ) (w turn j : ℕ) → get_or ws w 0 < 2 ^ 64 → turn < 64 → 0 < turn → j < 64
    → bit_at (bit_or (get_or ws w 0 / 2 ^ turn) (get_or ws (w + 1) 0 * 2 ^ (64 - turn) % 2 ^ 64)) j
    ≡ place ws (64 * w + turn + j)
window-both ws w turn j fits h some b =
    let split : bit_at (bit_or (get_or ws w 0 / 2 ^ turn) (get_or ws (w + 1) 0 * 2 ^ (64 - turn) % 2 ^ 64)) j
    ≡ max (bit_at (get_or ws w 0 / 2 ^ turn) j) (bit_at (get_or ws (w + 1) 0 * 2 ^ (64 - turn) % 2 ^ 64) j) =
    bit_at_or (get_or ws w 0 / 2 ^ turn) (get_or ws (w + 1) 0 * 2 ^ (64 - turn) % 2 ^ 64) j in
    let first : bit_at (get_or ws w 0 / 2 ^ turn) j ≡ bit_at (get_or ws w 0) (turn + j) = bit_at_shr (get_or ws w 0) turn j in
    let second : bit_at (get_or ws (w + 1) 0 * 2 ^ (64 - turn) % 2 ^ 64) j ≡ bit_at (get_or ws (w + 1) 0 * 2 ^ (64 - turn)) j =
    bit_at_mod (get_or ws (w + 1) 0 * 2 ^ (64 - turn)) 64 j b in
    elim (cases_lt (turn + j) 64) [
      | inl here ↦
          let e : place ws (64 * w + turn + j) ≡ bit_at (get_or ws w 0) (turn + j) =
          place_of ws (64 * w + turn + j) w (turn + j) (omega arith) here in
          let z : bit_at (get_or ws (w + 1) 0 * 2 ^ (64 - turn)) j ≡ 0 =
          bit_at_shl_low (get_or ws (w + 1) 0) (64 - turn) j (omega (arith, here)) in
          omega (arith, split, first, second, e, z)
      | inr past ↦
          let e : place ws (64 * w + turn + j) ≡ bit_at (get_or ws (w + 1) 0) (j - (64 - turn)) =
          place_of ws (64 * w + turn + j) (w + 1) (j - (64 - turn)) (omega (arith, past)) (omega arith) in
          let z : bit_at (get_or ws w 0) (turn + j) ≡ 0 = bit_at_above (get_or ws w 0) 64 (turn + j) fits past in
          let m : bit_at (get_or ws (w + 1) 0 * 2 ^ (64 - turn)) j ≡ bit_at (get_or ws (w + 1) 0) (j - (64 - turn)) =
          bit_at_shl_high (get_or ws (w + 1) 0) (64 - turn) j (omega (arith, past)) in
          omega (arith, split, first, second, e, z, m)
    ]
