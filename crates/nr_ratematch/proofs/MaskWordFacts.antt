-- The words of a mask: their bits are its marks.
use Rattle.nr_ratematch.proofs.Common.{nat_tests, rules, ◌≡◌, ℕ, zero, suc, ◌+◌, ◌-◌, ◌*◌, ◌/◌, ◌%◌}
use Rattle.nr_ratematch.proofs.Common.{◌<◌, ◌≤◌, ◌==◌, Bool, true, false, List, [], ◌∷◌, length, take, drop}
use Rattle.nr_ratematch.proofs.Common.{get_or, refl, ap, sym, ◌∙◌, arith, slice_index, bit_at, get_or-drop, get_or-take}
use Rattle.nr_ratematch.proofs.Common.{length-drop, get_or-map-range_with_len, mask_word_of}
use Rattle.nr_ratematch.specs.Marks.{mask_words}
use Rattle.std.{proofs.Common.◌^◌, specs.Int.from_bool, proofs.Math.Nat.pow-suc, proofs.Math.Pow.pow_mono}
use Rattle.std.proofs.lemmas.List.{drop_all, drop_more, get_or_default}
use Rattle.std.proofs.lemmas.Nat.Bits.{bit_at_lowest, bit_at-suc, bit_at-zero}

-- n bits write a number below 2 ^ n
pub word_of-small : (bits : List Bool) → mask_word_of bits < 2 ^ length bits
unfolding mask_word_of
word_of-small [] = omega arith
word_of-small (true ∷ bits) = omega (arith, word_of-small bits, pow-suc 2 (length bits))
word_of-small (false ∷ bits) = omega (arith, word_of-small bits, pow-suc 2 (length bits))

-- the number of the bits from place at on, by the bit there
pub word_of-at : (bits : List Bool) (at : ℕ) (b : Bool) → at < length bits → b ≡ get_or bits at b
    → mask_word_of (drop at bits) ≡ from_bool b + 2 * mask_word_of (drop (at + 1) bits)
unfolding mask_word_of
word_of-at bits at b h is = ap mask_word_of (drop_more bits at b h ∙ ap (λ x. x ∷ drop (at + 1) bits) (sym is))

-- the number of the bits from the place before `at` on
pub word_of-next : (bits : List Bool) (at word low : ℕ) → 0 < at → at ≤ length bits → word ≡ mask_word_of (drop at bits)
    → low ≡ from_bool (get_or bits (at - 1) false) → 2 * word + low ≡ mask_word_of (drop (at - 1) bits)
word_of-next bits at word low some inside so_far is = search (rules, word_of-at, get_or_default)

-- after the last bit
pub word_of-end : (bits : List Bool) → 0 ≡ mask_word_of (drop (length bits) bits)
unfolding mask_word_of
word_of-end bits = sym (ap mask_word_of (drop_all (length bits) bits (omega arith)))

-- if a bit of at most 64 is left, the number has room for it
pub word_of-room : (bits : List Bool) (at word : ℕ) → 0 < at → at ≤ length bits → length bits ≤ 64
    → word ≡ mask_word_of (drop at bits) → word < 2 ^ 63
word_of-room bits at word some inside few is = grind (arith, length-drop, word_of-small, pow_mono)

-- bit j of the number is bit j of those that it was made of
first_bit : (b : Bool) (n : ℕ) → (bit_at (from_bool b + 2 * n) 0 == 1) ≡ b
first_bit true n = let odd : bit_at (1 + 2 * n) 0 ≡ 1 = omega (arith, bit_at_lowest (1 + 2 * n)) in rw odd refl
first_bit false n = let even : bit_at (0 + 2 * n) 0 ≡ 0 = omega (arith, bit_at_lowest (0 + 2 * n)) in rw even refl

halved : (b : Bool) (n : ℕ) → (from_bool b + 2 * n) / 2 ≡ n
halved true n = omega arith
halved false n = omega arith

pub word_of-bit : (bits : List Bool) (j : ℕ) → (bit_at (mask_word_of bits) j == 1) ≡ get_or bits j false
unfolding mask_word_of
word_of-bit [] j = rw (bit_at-zero j) refl
word_of-bit (b ∷ bits) zero = first_bit b (mask_word_of bits)
word_of-bit (b ∷ bits) (suc j) = grind (arith, nat_tests, bit_at-suc, halved, word_of-bit bits j)

-- the six words, each by itself
pub six-words : {a b c d e f s t u v w x : ℕ} → a ≡ s → b ≡ t → c ≡ u → d ≡ v → e ≡ w → f ≡ x
    → a ∷ b ∷ c ∷ d ∷ e ∷ f ∷ [] ≡ s ∷ t ∷ u ∷ v ∷ w ∷ x ∷ []
six-words p q r y z o = rw (p, q, r, y, z, o) refl

-- mark first + j is mark j of those from `first` on
mark-within : (marks : List Bool) (first j r : ℕ) → j < 64 → first + j ≡ r
    → get_or (take 64 (drop first marks)) j false ≡ get_or marks r false
mark-within marks first j r h is = get_or-take 64 (drop first marks) j false h ∙ get_or-drop first marks j false
    ∙ ap (λ n. get_or marks n false) is

-- mark r is its bit in its word
pub words_of-bit : (marks : List Bool) (r : ℕ) → r < 384
    → (bit_at (slice_index (mask_words marks) (r / 64)) (r % 64) == 1) ≡ get_or marks r false
words_of-bit marks r h =
    let word : slice_index (mask_words marks) (r / 64) ≡ mask_word_of (take 64 (drop (64 * (r / 64)) marks)) =
    get_or-map-range_with_len (λ w. mask_word_of (take 64 (drop (64 * w) marks))) 0 6 (r / 64) (r / 64) 0 (omega arith)
    (omega arith) in
    ap (λ n. bit_at n (r % 64) == 1) word
    ∙ word_of-bit (take 64 (drop (64 * (r / 64)) marks)) (r % 64)
    ∙ mark-within marks (64 * (r / 64)) (r % 64) r (omega arith) (omega arith)
