-- What the calls of a lane do to the list that it is seen as.
use Rattle.nr_lifting.proofs.Names.{IsClear, List, arith, bit, bit-place, bit_at-lt, bits_of_words, false, get_or, get_or-replicate}
use Rattle.nr_lifting.proofs.Names.{length-replicate, length-unpacked, max, min, nat_tests, not, place, place-zeros, replicate, ℕ}
use Rattle.nr_lifting.proofs.Names.{◌%◌, ◌&&◌, ◌+◌, ◌-◌, ◌/◌, ◌<◌, ◌==◌, ◌||◌, ◌≡◌, ◌⊕◌}
use Rattle.nr_lifting.proofs.Names.{max-one, min-one}
use Rattle.nr_bitvec.proofs.PlaceFacts.{same_from_bits}

-- ---- digits and truth values

-- a digit is 0 or 1
pub place-lt : (ws : List ℕ) (t : ℕ) → place ws t < 2
place-lt ws t = bit_at-lt (get_or ws (t / 64) 0) (t % 64)

pub sum_bits : (a b : ℕ) → a < 2 → b < 2 → ((a + b) % 2 == 1) ≡ (a == 1) ⊕ (b == 1)
sum_bits a b h k = grind (arith, nat_tests)

pub rest_bits : (a b : ℕ) → a < 2 → b < 2 → (min a (1 - b) == 1) ≡ ((a == 1) && not (b == 1))
rest_bits a b h k = grind (arith, nat_tests)

-- ---- the calls

-- words of zeros are a list of zeros
pub unpacked-zeros : (z w : ℕ) → bits_of_words z (replicate w 0) ≡ replicate z false
unpacked-zeros z w =
    grind (arith, nat_tests, same_from_bits, length-unpacked, length-replicate, bit-place, place-zeros, get_or-replicate)

-- Lists of z bits. A rotated one joins the others.
module _ (z p : ℕ) (src new : List ℕ) (src_clear : IsClear src z) (new_clear : IsClear new z) where
  module _ (old : List ℕ) (old_clear : IsClear old z) where
    pub view-once : ((t : ℕ) → t < z → place new t ≡ max (place old t) (place src ((t + p) % z)))
        → (t : ℕ) → t < z
        → bit (bits_of_words z new) t ≡ (bit (bits_of_words z old) t || bit (bits_of_words z src) ((t + p) % z))
    view-once h t below = grind (arith, nat_tests, bit-place, max-one, place-lt)

  module _ (old ones : List ℕ) (old_clear : IsClear old z) (ones_clear : IsClear ones z) where
    pub view-twice : ((t : ℕ) → t < z → place new t ≡ max (place old t) (min (place ones t) (place src ((t + p) % z))))
        → (t : ℕ) → t < z
        → bit (bits_of_words z new) t
        ≡ (bit (bits_of_words z old) t || bit (bits_of_words z ones) t && bit (bits_of_words z src) ((t + p) % z))
    view-twice h t below = grind (arith, nat_tests, min-one, place-lt, bit-place, max-one)
