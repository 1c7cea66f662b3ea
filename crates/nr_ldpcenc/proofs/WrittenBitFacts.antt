-- Bits that are written into a list 64 at a time.
use Rattle.nr_ldpcenc.proofs.Common.{◌≡◌, ℕ, ◌+◌, ◌-◌, ◌*◌, ◌<◌, ◌≤◌, ◌==◌, min, Bool, inl, inr}
use Rattle.nr_ldpcenc.proofs.Common.{List, length, sym, ap, ◌∙◌, arith, cases_lt, bit, IsClearedTo, Copies}
use Rattle.std.{specs.Int.bit_at, proofs.lemmas.Nat.Bits.bit_at-zero}

-- some more bits are cleared
pub cleared_more : (at m count next : ℕ) (old xs ys : List Bool) → next ≡ m + count → IsClearedTo m at xs old
    → ((t : ℕ) → t < count → bit ys (m + t) ≡ (bit_at 0 t == 1))
    → ((t : ℕ) → t < m → bit ys t ≡ bit xs t) → length ys ≡ length xs → at ≤ m
    → IsClearedTo next at ys old
cleared_more at m count next old xs ys is_next done within before long past = record {
  zeros = λ t le lt. elim (cases_lt t m) [
    | inl low ↦ before t low ∙ done.zeros t le low
    | inr high ↦
        let there : m + (t - m) ≡ t = omega (arith, high) in
        ap (bit ys) (sym there) ∙ within (t - m) (omega (arith, is_next, high, lt)) ∙ ap (λ n. n == 1) (bit_at-zero (t - m))
  ];
  before = λ p lt. done.before p lt ∙ sym (before p (omega (arith, lt, past)));
  long = long ∙ done.long;
}

-- one more word is copied
pub copied_more : (n i word count : ℕ) (src old xs ys : List Bool) → count ≡ min (n - 64 * i) 64 → 64 * i < n
    → Copies (min (64 * i) n) n src old xs
    → ((t : ℕ) → t < 64 → (bit_at word t == 1) ≡ bit src (64 * i + t))
    → ((t : ℕ) → t < count → bit ys (64 * i + t) ≡ (bit_at word t == 1))
    → ((t : ℕ) → t < 64 * i → bit ys t ≡ bit xs t)
    → ((t : ℕ) → 64 * i + count ≤ t → bit ys t ≡ bit xs t) → length ys ≡ length xs
    → Copies (min (64 * (i + 1)) n) n src old ys
copied_more n i word count src old xs ys is_count some done read within before after long = record {
  begins = λ t lt. elim (cases_lt t (64 * i)) [
    | inl low ↦ before t low ∙ done.begins t (omega (arith, low, lt))
    | inr high ↦
        let j = t - 64 * i in
        let there : 64 * i + j ≡ t = omega (arith, high) in
        ap (bit ys) (sym there) ∙ within j (omega (arith, is_count, high, lt)) ∙ read j (omega (arith, high, lt))
        ∙ ap (bit src) there
  ];
  after = λ t le. after t (omega (arith, is_count, le)) ∙ done.after t le;
  long = long ∙ done.long;
}
