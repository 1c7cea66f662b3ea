-- Words that are put into a list from a bit on, if no bit is set from there on.
use Rattle.nr_bitvec.proofs.Common.{◌≤◌, ◌==◌, inl, inr, false, List, length, get_or, refl, ap, sym, ◌∙◌, arith}
use Rattle.nr_bitvec.proofs.Common.{true≢false, cases_lt, bit_at-lt, bit, BitList, place, bits_of_words, IsClear, IsPacked, Joins}
use Rattle.nr_bitvec.proofs.Common.{◌≡◌, ℕ, zero, suc, ◌+◌, ◌-◌, ◌*◌, ◌/◌, ◌%◌, ◌^◌, ◌<◌}
use Rattle.nr_bitvec.proofs.PlaceFacts.{length-unpacked, bit-place}

-- a place that is not set
unset : (m : ℕ) → m < 2 → (m == 1) ≡ false → m ≡ 0
unset zero h e = refl
unset (suc zero) h e = absurd (true≢false e)
unset (suc (suc m)) h e = absurd (omega (arith, h))

-- Words of n bits, seen as b, in which no bit is set from bit `at` on.
module _ (n r at : ℕ) (ws : List ℕ) (b : BitList) (view : record { items = bits_of_words n ws; room = r } ≡ b)
    (packed : IsPacked n ws) where
  size : length b.items ≡ n
  size = sym (ap (λ (c : BitList). length c.items) view) ∙ length-unpacked n ws

  seen : (t : ℕ) → (place ws t == 1) ≡ bit b.items t
  seen t = sym (bit-place n ws t packed.clear) ∙ ap (λ (c : BitList). bit c.items t) view

  pub put_words-clear : ((t : ℕ) → at ≤ t → bit b.items t ≡ false) → IsClear ws at
  put_words-clear zeros t h = unset (place ws t) (bit_at-lt (get_or ws (t / 64) 0) (t % 64)) (seen t ∙ zeros t h)

  pub put_words-short : (vs : List ℕ) → at ≤ length b.items → length vs ≤ 64 → at + 64 * length vs < 2 ^ 32
  put_words-short vs h few = omega (arith, h, few, size, packed.short)

  module _ (vs : List ℕ) (inside : (t : ℕ) → length b.items ≤ at + t → place vs t ≡ 0) where
    pub put_words-fits : (t : ℕ) → 64 * length ws ≤ at + t → place vs t ≡ 0
    put_words-fits t h = inside t (omega (arith, h, size, packed.below))

    module _ (new : List ℕ) (joins : Joins at ws vs new (length vs)) (few : at ≤ length b.items) where
      past : (t : ℕ) → at + 64 * length vs ≤ t → place new t ≡ 0
      past t h =
          let k : at + (t - at) ≡ t = omega (arith, h) in
          sym (ap (place new) k) ∙ joins.after (t - at) (omega (arith, h))

      pub put_words-packed : IsPacked n new
      put_words-packed = record {
        short = packed.short;
        above = omega (arith, packed.above, joins.long);
        below = omega (arith, packed.below, joins.long);
        clear = λ t h. elim (cases_lt t (at + 64 * length vs)) [
          | inl low ↦
              let k : at + (t - at) ≡ t = omega (arith, h, few, size) in
              sym (ap (place new) k) ∙ joins.within (t - at) (omega (arith, low, k))
              ∙ inside (t - at) (omega (arith, h, size, k))
          | inr high ↦ past t high
        ];
      }

      at_place : (t : ℕ) → bit (bits_of_words n new) t ≡ (place new t == 1)
      at_place t = bit-place n new t put_words-packed.clear

      pub put_words-before : (t : ℕ) → t < at → bit (bits_of_words n new) t ≡ bit b.items t
      put_words-before t h = at_place t ∙ ap (λ k. k == 1) (joins.before t h) ∙ seen t

      pub put_words-within : (t : ℕ) → t < 64 * length vs → bit (bits_of_words n new) (at + t) ≡ (place vs t == 1)
      put_words-within t h = at_place (at + t) ∙ ap (λ k. k == 1) (joins.within t h)

      pub put_words-after : (t : ℕ) → at + 64 * length vs ≤ t → bit (bits_of_words n new) t ≡ false
      put_words-after t h = at_place t ∙ ap (λ k. k == 1) (past t h)

      pub put_words-long : length (bits_of_words n new) ≡ length b.items
      put_words-long = length-unpacked n new ∙ sym size
