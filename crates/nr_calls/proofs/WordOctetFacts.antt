-- The octets of bits, eight octets of a word at a time.
use Rattle.nr_calls.proofs.Common.{◌≡◌, ℕ, zero, suc, ◌+◌, ◌-◌, ◌*◌, ◌/◌, ◌^◌, ◌<◌, ◌≤◌}
use Rattle.nr_calls.proofs.Common.{◌==◌, Bool, false, List, ◌++◌, length, get_or, take, drop, sym, ap, subst, ◌∙◌}
use Rattle.nr_calls.proofs.Common.{inl, inr, arith, get_or-drop, cases_lt, get_or-append_right, get_or-take, get_or_append_left}
use Rattle.nr_calls.proofs.Common.{length-take-le, pow_pos, bit_at, bit, number_of, bit_at_shr}
use Rattle.std.{proofs.Common.◌%◌, proofs.lemmas.Nat.mod_below, specs.Int.to_be_bytes, specs.Int.w64}
use Rattle.nr_bitvec.proofs.{BitFacts.bit_at_mod, OctetListFacts.number_of-is}

-- the octet of a word from place s on
record HasPlaces (word s octet : ℕ) : Type 0 where
  small : octet < 2 ^ 8
  bits : (j : ℕ) → j < 8 → bit_at octet j ≡ bit_at word (s + j)

octet_at : (word s : ℕ) → HasPlaces word s (word / 2 ^ s % 2 ^ 8)
octet_at word s = record {
  small = mod_below _ (2 ^ 8) (pow_pos 8);
  bits = λ j short. bit_at_mod (word / 2 ^ s) 8 j short ∙ bit_at_shr word s j;
}

first_highest : (word k : ℕ) → k < 8 → HasPlaces word (8 * (7 - k)) (get_or (to_be_bytes w64 word) k 0)
first_highest word zero h = octet_at word 56
first_highest word (suc zero) h = octet_at word 48
first_highest word (suc (suc zero)) h = octet_at word 40
first_highest word (suc (suc (suc zero))) h = octet_at word 32
first_highest word (suc (suc (suc (suc zero)))) h = octet_at word 24
first_highest word (suc (suc (suc (suc (suc zero))))) h = octet_at word 16
first_highest word (suc (suc (suc (suc (suc (suc zero)))))) h = octet_at word 8
first_highest word (suc (suc (suc (suc (suc (suc (suc zero))))))) h =
    subst (HasPlaces word 0) (ap (λ n. n % 2 ^ 8) {x = word / 2 ^ 0} {y = word} (omega arith)) (octet_at word 0)
first_highest word (suc (suc (suc (suc (suc (suc (suc (suc k)))))))) h = absurd (omega (arith, h))

-- a word with the bits from bit 64 i on, and the word with its bits in the other order
module _ (bits : List Bool) (i word turned : ℕ) (reads : (j : ℕ) → j < 64 → (bit_at word j == 1) ≡ bit bits (64 * i + j))
    (turns : (j : ℕ) → j < 64 → bit_at turned j ≡ bit_at word (63 - j)) where
  word-octet : (k : ℕ) → k < 8 → get_or (to_be_bytes w64 turned) k 0 ≡ number_of 8 (drop (8 * (8 * i + k)) bits)
  word-octet k few =
      let octet = first_highest turned k few in
      number_of-is (get_or (to_be_bytes w64 turned) k 0) (drop (8 * (8 * i + k)) bits) octet.small
      (λ j short.
      let there : 64 * i + (63 - (8 * (7 - k) + j)) ≡ 8 * (8 * i + k) + (7 - j) = omega (arith, few, short) in
      ap (λ n. n == 1) (octet.bits j short ∙ turns (8 * (7 - k) + j) (omega (arith, few, short)))
      ∙ reads (63 - (8 * (7 - k) + j)) (omega arith) ∙ ap (bit bits) there
      ∙ sym (get_or-drop (8 * (8 * i + k)) bits (7 - j) false))

  -- eight more octets are written
  pub octets-more : (next out eight : List ℕ) → 8 * i ≤ length out → take (8 * (i + 1)) next ≡ take (8 * i) out ++ eight
      → eight ≡ to_be_bytes w64 turned
      → ((k : ℕ) → k < 8 * i → get_or out k 0 ≡ number_of 8 (drop (8 * k) bits)) → (k : ℕ) → k < 8 * (i + 1)
      → get_or next k 0
      ≡ number_of 8 (drop (8 * k) bits)
  octets-more next out eight within put is before k below =
      let long = length-take-le (8 * i) out within in
      sym (get_or-take (8 * (i + 1)) next k 0 below) ∙ ap (λ os. get_or os k 0) put ∙ elim (cases_lt k (8 * i)) [
        | inl low ↦ get_or_append_left (take (8 * i) out) eight 0 k (omega (arith, long, low)) ∙ get_or-take (8 * i) out k 0 low
            ∙ before k low
        | inr high ↦
            let there : 8 * i + (k - 8 * i) ≡ k = omega (arith, high) in
            get_or-append_right (take (8 * i) out) eight (8 * i) k 0 long high ∙ ap (λ os. get_or os (k - 8 * i) 0) is
            ∙ word-octet (k - 8 * i) (omega (arith, below, high)) ∙ ap (λ n. number_of 8 (drop (8 * n) bits)) there
      ]
