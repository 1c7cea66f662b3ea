-- Words whose set places are set in others too.
use Rattle.nr_bitvec.proofs.Common.{nat_tests, ◌≡◌, ℕ, ◌+◌, ◌*◌, ◌/◌, ◌%◌, ◌<◌, ◌≤◌, ◌||◌}
use Rattle.nr_bitvec.proofs.Common.{inl, inr, max, List, length, get_or, set, ap, sym, ◌∙◌, arith, length-set, cases_lt}
use Rattle.nr_bitvec.proofs.Common.{cases_eq, get_or_read, bit_at-lt, bit_at_or, bit_at, bit_or, bit, place, bits_of_words}
use Rattle.nr_bitvec.proofs.{Common.IsPacked, Common.Merges, BitFacts.place_of, BitFacts.place_past, NumberFacts.max-one}
use Rattle.nr_bitvec.proofs.PlaceFacts.{bit-place, place-set_same, place-set_other}

-- ---- word by word

pub merges_more : (old vs new : List ℕ) (i a b : ℕ) → Merges old vs new i → i < length new → i < length vs
    → a ≡ get_or new i a → b ≡ get_or vs i b → Merges old vs (set new i (bit_or a b)) (i + 1)
merges_more old vs new i a b merges inside within read other =
    record {
      within = λ t h. elim (cases_eq (t / 64) i) [
        | inl here ↦
            let e : t ≡ 64 * i + t % 64 = omega (arith, here) in
            let p : bit_at a (t % 64) ≡ place old t = ap (λ k. bit_at k (t % 64)) (get_or_read new i a inside read 0)
            ∙ sym (place_of new t i (t % 64) e (omega arith)) ∙ merges.after t (omega (arith, e)) in
            let q : bit_at b (t % 64) ≡ place vs t = ap (λ k. bit_at k (t % 64)) (get_or_read vs i b within other 0)
            ∙ sym (place_of vs t i (t % 64) e (omega arith)) in
            place-set_same new i (bit_or a b) t (t % 64) inside e (omega arith) ∙ bit_at_or a b (t % 64)
            ∙ ap (λ k. max k (bit_at b (t % 64))) p ∙ ap (max (place old t)) q
        | inr apart ↦ place-set_other new i (bit_or a b) t apart ∙ merges.within t (omega (arith, h, apart))
      ];
      after = λ t h. place-set_other new i (bit_or a b) t (λ e. omega (arith, e, h)) ∙ merges.after t (omega (arith, h));
      long = length-set new i (bit_or a b) ∙ merges.long;
    }

-- ---- what the whole makes of the list

module _ (n m i : ℕ) (old vs new : List ℕ) (packed : IsPacked n old) (other : IsPacked m vs) (same : m ≡ n)
    (merges : Merges old vs new i) (all : length old ≤ i) where
  merged : (t : ℕ) → place new t ≡ max (place old t) (place vs t)
  merged t = grind (arith, cases_lt, place_past)

  pub merged-packed : IsPacked n new
  merged-packed = grind (arith, merged)

  pub merged-bit : (p : ℕ) → bit (bits_of_words n new) p ≡ (bit (bits_of_words n old) p || bit (bits_of_words m vs) p)
  merged-bit p = grind (arith, nat_tests, bit-place, merged, max-one, bit_at-lt)
