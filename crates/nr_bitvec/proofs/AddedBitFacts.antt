-- Adding 64 bits modulo two to packed words, from any place on.
use Rattle.nr_bitvec.proofs.Common.{◌≡◌, ℕ, ◌+◌, ◌-◌, ◌*◌, ◌/◌, ◌%◌, ◌^◌, ◌<◌, ◌≤◌}
use Rattle.nr_bitvec.proofs.Common.{◌≢◌, ◌⊎◌, inl, inr, if◌then◌else◌, List, length, get_or, set, refl, ap, sym}
use Rattle.nr_bitvec.proofs.Common.{◌∙◌, arith, length-set, cases_lt, cases_eq, lt-ltb, le-ltb, bit_at-lt, bit_at_above}
use Rattle.nr_bitvec.proofs.Common.{bit_at_xor, bit_at, bit_xor, place, moved_place}
use Rattle.nr_bitvec.proofs.BitFacts.{bit_at_shr, bit_at_shl_low, bit_at_shl_high, bit_at_mod, place_of}
use Rattle.nr_bitvec.proofs.PlaceFacts.{place-set_same, place-set_other}

-- a number that begins at place `at`
pub moved_below : (at n t : ℕ) → t < at → moved_place at n t ≡ 0
moved_below at n t h = ap (λ b. if b then 0 else bit_at n (t - at)) (lt-ltb t at h)

pub moved_from : (at n t : ℕ) → at ≤ t → moved_place at n t ≡ bit_at n (t - at)
moved_from at n t h = ap (λ b. if b then 0 else bit_at n (t - at)) (le-ltb t at h)

-- a bit of a word that is moved up by s, in the word that it is moved to
pub moved_up : (n at w s t r : ℕ) → at ≡ 64 * w + s → s < 64 → t ≡ 64 * w + r → r < 64
    → bit_at (n * 2 ^ s % 2 ^ 64) r ≡ moved_place at n t
moved_up n at w s t r e h f b =
    let cut : bit_at (n * 2 ^ s % 2 ^ 64) r ≡ bit_at (n * 2 ^ s) r = bit_at_mod (n * 2 ^ s) 64 r b in
    elim (cases_lt r s) [
      | inl low ↦ cut ∙ bit_at_shl_low n s r low ∙ sym (moved_below at n t (omega (arith, e, f, low)))
      | inr high ↦
          let i : r - s ≡ t - at = omega (arith, e, f, high) in
          cut ∙ bit_at_shl_high n s r high ∙ ap (λ k. bit_at n k) i ∙ sym (moved_from at n t (omega (arith, e, f, high)))
    ]

-- the word's new bit
flipped : (a x n r p m : ℕ) → n ≡ bit_xor a x → bit_at a r ≡ p → bit_at x r ≡ m → bit_at n r ≡ (p + m) % 2
flipped a x n r p m e f g = grind (arith, bit_at_xor)

-- a place to which nothing is added
pub kept : (ws : List ℕ) (at n t : ℕ) → moved_place at n t ≡ 0 → place ws t ≡ (place ws t + moved_place at n t) % 2
kept ws at n t e = grind (arith, bit_at-lt)

-- the first word is written
pub flip-first : (ws : List ℕ) (at n w s a t : ℕ) → at ≡ 64 * w + s → s < 64 → w < length ws → a ≡ get_or ws w 0
    → n < 2 ^ 64
    → (64 * w + 64 ≤ t → moved_place at n t ≡ 0)
    → place (set ws w (bit_xor a (n * 2 ^ s % 2 ^ 64))) t ≡ (place ws t + moved_place at n t) % 2
flip-first ws at n w s a t e h within read fits past =
    elim (cases_eq (t / 64) w) [
      | inl here ↦
          let f : t ≡ 64 * w + t % 64 = omega (arith, here) in
          let b : t % 64 < 64 = omega arith in
          let p : bit_at a (t % 64) ≡ place ws t = ap (λ k. bit_at k (t % 64)) read ∙ sym (place_of ws t w (t % 64) f b) in
          place-set_same ws w (bit_xor a (n * 2 ^ s % 2 ^ 64)) t (t % 64) within f b
          ∙ flipped a (n * 2 ^ s % 2 ^ 64) (bit_xor a (n * 2 ^ s % 2 ^ 64)) (t % 64) (place ws t) (moved_place at n t) refl p
          (moved_up n at w s t (t % 64) e h f b)
      | inr other ↦ place-set_other ws w (bit_xor a (n * 2 ^ s % 2 ^ 64)) t other ∙ elim (cases_lt (t / 64) w) [
        | inl below ↦ kept ws at n t (moved_below at n t (omega (arith, e, below)))
        | inr above ↦ kept ws at n t (past (omega (arith, above, other)))
      ]
    ]

-- no place is added past the first word, or none that is set
pub flip-one : (ws : List ℕ) (at n a t : ℕ) → at / 64 < length ws → a ≡ get_or ws (at / 64) 0 → n < 2 ^ 64
    → ((j : ℕ) → 64 * length ws ≤ at + j → bit_at n j ≡ 0) → (at % 64 ≡ 0) ⊎ (length ws ≤ at / 64 + 1)
    → place (set ws (at / 64) (bit_xor a (n * 2 ^ (at % 64) % 2 ^ 64))) t ≡ (place ws t + moved_place at n t) % 2
flip-one ws at n a t within read fits none last =
    flip-first ws at n (at / 64) (at % 64) a t (omega arith) (omega arith) within read fits
    (λ above. moved_from at n t (omega (arith, above)) ∙ elim last [
      | inl whole ↦ bit_at_above n 64 (t - at) fits (omega (arith, above, whole))
      | inr end ↦ none (t - at) (omega (arith, above, end))
    ])

-- the places that the second word does not have
first_part : (ws : List ℕ) (at n a t : ℕ) → at / 64 + 1 < length ws → a ≡ get_or ws (at / 64) 0 → n < 2 ^ 64
    → t / 64 ≢ at / 64 + 1
    → place (set ws (at / 64) (bit_xor a (n * 2 ^ (at % 64) % 2 ^ 64))) t ≡ (place ws t + moved_place at n t) % 2
first_part ws at n a t within read fits other =
    elim (cases_lt t (64 * (at / 64) + 64)) [
      | inl below ↦ flip-first ws at n (at / 64) (at % 64) a t (omega arith) (omega arith) (omega (arith, within)) read fits
          (λ above. absurd (omega (arith, above, below)))
      | inr above ↦ flip-first ws at n (at / 64) (at % 64) a t (omega arith) (omega arith) (omega (arith, within)) read fits
          (λ _. moved_from at n t (omega (arith, above)) ∙ bit_at_above n 64 (t - at) fits (omega (arith, above, other)))
    ]

-- the second word is written too
pub flip-both : (ws : List ℕ) (at n a b t : ℕ) → at / 64 + 1 < length ws → 0 < at % 64 → a ≡ get_or ws (at / 64) 0
    → n < 2 ^ 64
    → b ≡ get_or (set ws (at / 64) (bit_xor a (n * 2 ^ (at % 64) % 2 ^ 64))) (at / 64 + 1) 0
    → place (set (set ws (at / 64) (bit_xor a (n * 2 ^ (at % 64) % 2 ^ 64))) (at / 64 + 1) (bit_xor b (n / 2 ^ (64 - at % 64)))) t
    ≡ (place ws t + moved_place at n t) % 2
flip-both ws at n a b t within some read fits read_next =
    let one : List ℕ = set ws (at / 64) (bit_xor a (n * 2 ^ (at % 64) % 2 ^ 64)) in
    let long : length one ≡ length ws = length-set ws (at / 64) (bit_xor a (n * 2 ^ (at % 64) % 2 ^ 64)) in
    elim (cases_eq (t / 64) (at / 64 + 1)) [
      | inl here ↦
          let f : t ≡ 64 * (at / 64 + 1) + t % 64 = omega (arith, here) in
          let h : t % 64 < 64 = omega arith in
          let old : place one t ≡ place ws t =
          place-set_other ws (at / 64) (bit_xor a (n * 2 ^ (at % 64) % 2 ^ 64)) t (λ e. omega (arith, e, here)) in
          let p : bit_at b (t % 64) ≡ place ws t =
          ap (λ k. bit_at k (t % 64)) read_next ∙ sym (place_of one t (at / 64 + 1) (t % 64) f h) ∙ old in
          let i : 64 - at % 64 + t % 64 ≡ t - at = omega (arith, f) in
          let m : bit_at (n / 2 ^ (64 - at % 64)) (t % 64) ≡ moved_place at n t =
          bit_at_shr n (64 - at % 64) (t % 64) ∙ ap (λ k. bit_at n k) i ∙ sym (moved_from at n t (omega (arith, f))) in
          place-set_same one (at / 64 + 1) (bit_xor b (n / 2 ^ (64 - at % 64))) t (t % 64) (omega (arith, long, within)) f h
          ∙ flipped b (n / 2 ^ (64 - at % 64)) (bit_xor b (n / 2 ^ (64 - at % 64))) (t % 64) (place ws t)
          (moved_place at n t) refl p m
      | inr other ↦
          place-set_other one (at / 64 + 1) (bit_xor b (n / 2 ^ (64 - at % 64))) t other
          ∙ first_part ws at n a t within read fits other
    ]
