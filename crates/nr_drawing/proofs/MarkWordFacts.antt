-- Marks gathered in a word, one after another from the lowest on.
use Rattle.std.proofs.lemmas.List.FromFn.{fill_by_all, get_or-map-range_with_len, length-map-range_with_len}
use Rattle.std.proofs.{Common.replicate, lemmas.List.length-replicate, lemmas.List.same_lists, lemmas.Nat.Bits.bit_at_ones}
use Rattle.std.proofs.lemmas.List.FromFn.{map-range_with_len_more}
use Rattle.nr_bitvec.proofs.NumberFacts.{from_bool-most}
use Rattle.nr_bitvec.proofs.WordDigitFacts.{digit-before, digit-here, digit-none}
use Rattle.nr_drawing.proofs.Common.{Bool, HasNone, [], ap, arith, bit_at, bit_or, false, from_bool, get_or-replicate, low_first}
use Rattle.nr_drawing.proofs.Common.{nat_tests, refl, sym, true, ℕ, ◌%◌, ◌*◌, ◌++◌, ◌+◌, ◌<◌, ◌==◌}
use Rattle.nr_drawing.proofs.Common.{◌^◌, ◌∙◌, ◌∷◌, ◌≡◌, ◌≤◌}

-- one more mark at the end of a word
module _ (word next digit n : ℕ) (mark : Bool) (inside : n < 64) (told : digit ≡ from_bool mark)
    (is : next ≡ bit_or word (digit * 2 ^ n % 2 ^ 64)) (low : HasNone n word) where
  small : digit ≤ 1
  small = rw told (from_bool-most mark)

  pub mark-none : HasNone (n + 1) next
  mark-none = digit-none word next digit n small inside is low

  -- the bits so far are unchanged
  low-same : low_first n next ≡ low_first n word
  unfolding low_first
  low-same =
      let before : (j : ℕ) → j < n → bit_at next j ≡ bit_at word j = digit-before word next digit n small inside is low in
      grind (arith, nat_tests, length-map-range_with_len, same_lists, get_or-map-range_with_len, before)

  pub low-more : low_first (n + 1) next ≡ low_first n word ++ mark ∷ []
  unfolding low_first
  low-more =
      let one : (digit == 1) ≡ mark = grind (arith, nat_tests) in
      map-range_with_len_more (λ j. bit_at next j == 1) 0 n n (omega arith)
      ∙ rw (low-same, digit-here word next digit n small inside is low, one) refl

-- a word of ones
pub low-ones : (n : ℕ) → n ≤ 64 → low_first n 18446744073709551615 ≡ replicate n true
unfolding low_first
low-ones n few = sym (fill_by_all (λ j. bit_at 18446744073709551615 j == 1) (replicate n true) n false (length-replicate n true)
    (λ k below. get_or-replicate n k true false below ∙ sym (ap (λ b. b == 1) (bit_at_ones 64 k (omega arith)))))
