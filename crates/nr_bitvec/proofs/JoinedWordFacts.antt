-- Words that are added after the places of others.
use Rattle.nr_bitvec.proofs.Common.{common_steps, nat_tests, ◌≡◌, ℕ, ◌+◌, ◌-◌, ◌*◌, ◌/◌, ◌%◌, ◌^◌}
use Rattle.nr_bitvec.proofs.Common.{◌<◌, ◌≤◌, inl, inr, min, false, List, length, get_or, replicate, refl, ap, sym}
use Rattle.nr_bitvec.proofs.Common.{◌∙◌, arith, cases_lt, get_or-replicate, length-replicate, bit_at_above, bit_at, place}
use Rattle.nr_bitvec.proofs.Common.{IsClear, bits_of_words, moved_place, IsPacked, Joins}
use Rattle.nr_bitvec.proofs.{BitFacts.place_of, AddedBitFacts.moved_below, AddedBitFacts.moved_from, AddedBitFacts.kept}
use Rattle.nr_bitvec.proofs.{PackedListFacts.unpacked-is, PlaceFacts.place-zeros}

-- ---- word by word

pub joins_none : (n : ℕ) (old vs : List ℕ) → IsClear old n → Joins n old vs old 0
joins_none n old vs clear = grind arith

-- the bits that are added are those of word i
added : (n : ℕ) (vs : List ℕ) (i w t : ℕ) → w ≡ get_or vs i 0 → 64 * i ≤ t → t < 64 * i + 64
    → moved_place (n + 64 * i) w (n + t) ≡ place vs t
added n vs i w t read low high = grind (arith, moved_from, place_of)

pub joins_more : (n : ℕ) (old vs new next : List ℕ) (i w : ℕ) → Joins n old vs new i → w ≡ get_or vs i 0 → w < 2 ^ 64
    → length next ≡ length new
    → ((t : ℕ) → place next t ≡ (place new t + moved_place (n + 64 * i) w t) % 2) → Joins n old vs next (i + 1)
joins_more n old vs new next i w joins read fits long flips =
    let still : (t : ℕ) → moved_place (n + 64 * i) w t ≡ 0 → place next t ≡ place new t =
    λ t e. flips t ∙ sym (kept new (n + 64 * i) w t e) in
    record {
      before = λ t h. still t (moved_below (n + 64 * i) w t (omega (arith, h))) ∙ joins.before t h;
      within = λ t h. elim (cases_lt t (64 * i)) [
        | inl low ↦ still (n + t) (moved_below (n + 64 * i) w (n + t) (omega (arith, low))) ∙ joins.within t low
        | inr high ↦
            flips (n + t) ∙ ap (λ k. (k + moved_place (n + 64 * i) w (n + t)) % 2) (joins.after t high)
            ∙ ap (λ k. (0 + k) % 2) (added n vs i w t read high (omega (arith, h)))
            ∙ omega arith
      ];
      after =
          λ t h. still (n + t) (moved_from (n + 64 * i) w (n + t) (omega (arith, h))
          ∙ bit_at_above w 64 (n + t - (n + 64 * i)) fits (omega (arith, h))) ∙ joins.after t (omega (arith, h));
      long = long ∙ joins.long;
    }

-- no bit of word i goes past the end
pub joins-fit : (n : ℕ) (old vs new : List ℕ) (i w j : ℕ) → Joins n old vs new i → w ≡ get_or vs i 0 → w < 2 ^ 64
    → ((t : ℕ) → 64 * length old ≤ n + t → place vs t ≡ 0) → 64 * length new ≤ n + 64 * i + j → bit_at w j ≡ 0
joins-fit n old vs new i w j joins read fits none h =
    elim (cases_lt j 64) [
      | inl low ↦ ap (λ k. bit_at k j) read ∙ sym (place_of vs (64 * i + j) i j refl low)
          ∙ none (64 * i + j) (omega (arith, h, joins.long))
      | inr high ↦ bit_at_above w 64 j fits high
    ]

-- ---- lists of bits, one after another

-- words of zeros, as many as n places need, and the list of n zero bits in them
pub zeros-packed : (n count : ℕ) (ws : List ℕ) → n ≤ 2 ^ 24 → count ≡ n / 64 + min 1 (n % 64)
    → ws ≡ replicate count 0 → IsPacked n ws
zeros-packed n count ws short e made = grind (arith, length-replicate, place-zeros)

pub zeros-items : (n count : ℕ) (ws : List ℕ) → ws ≡ replicate count 0 → bits_of_words n ws ≡ replicate n false
zeros-items n count ws made = grind (arith, common_steps, nat_tests, unpacked-is, length-replicate, place-zeros, get_or-replicate)
