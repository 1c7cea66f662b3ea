-- The places of packed words: words of zeros, a write of one word, one more word, and the bits that a view shows.
use Rattle.nr_bitvec.proofs.Common.{rules, ◌≡◌, ℕ, ◌+◌, ◌*◌, ◌/◌, ◌%◌, ◌<◌, ◌==◌, ◌≢◌, Bool}
use Rattle.nr_bitvec.proofs.Common.{List, [], ◌∷◌, ◌++◌, length, replicate, set, ap, ◌∙◌, arith, get_or-set_same}
use Rattle.nr_bitvec.proofs.Common.{get_or-set_other, nat_tests, cases_lt, get_or_past, get_or_append_left, same_lists}
use Rattle.nr_bitvec.proofs.Common.{get_or_default, length-map-range_with_len, get_or-map-range_with_len, bit_at-zero, bit_at, bit}
use Rattle.nr_bitvec.proofs.{Common.place, Common.IsClear, Common.bits_of_words, BitFacts.place_of, ListFacts.get_or-replicate_same}
use Rattle.std.proofs.lemmas.List.{get_or_push}

-- ---- words of zeros

pub place-zeros : (count t : ℕ) → place (replicate count 0) t ≡ 0
place-zeros count t = ap (λ k. bit_at k (t % 64)) (get_or-replicate_same count (t / 64) 0) ∙ bit_at-zero (t % 64)

-- ---- a write of one word

pub place-set_same : (ws : List ℕ) (i n t s : ℕ) → i < length ws → t ≡ 64 * i + s → s < 64
    → place (set ws i n) t ≡ bit_at n s
place-set_same ws i n t s within e h = grind (arith, place_of, get_or-set_same)

pub place-set_other : (ws : List ℕ) (i n t : ℕ) → t / 64 ≢ i → place (set ws i n) t ≡ place ws t
place-set_other ws i n t apart = ap (λ m. bit_at m (t % 64)) (get_or-set_other ws i (t / 64) n 0 apart)

-- ---- one more word

pub place-push_old : (ws : List ℕ) (n t : ℕ) → t < 64 * length ws → place (ws ++ n ∷ []) t ≡ place ws t
place-push_old ws n t h = grind (arith, get_or_append_left)

pub place-push_new : (ws : List ℕ) (n t s : ℕ) → t ≡ 64 * length ws + s → s < 64
    → place (ws ++ n ∷ []) t ≡ bit_at n s
place-push_new ws n t s e h = grind (arith, place_of, get_or_push)

-- ---- the view of packed words

pub length-unpacked : (n : ℕ) (ws : List ℕ) → length (bits_of_words n ws) ≡ n
length-unpacked n ws = length-map-range_with_len (λ t. place ws t == 1) 0 n

-- a bit of the view is its place; past the end too, if no place is set there
pub bit-place : (n : ℕ) (ws : List ℕ) (t : ℕ) → IsClear ws n → bit (bits_of_words n ws) t ≡ (place ws t == 1)
bit-place n ws t clear = grind (arith, nat_tests, cases_lt, get_or-map-range_with_len, get_or_past, length-unpacked)

-- two lists of one length with the same bits are equal
pub same_from_bits : (xs ys : List Bool) → length xs ≡ length ys → ((t : ℕ) → t < length xs → bit xs t ≡ bit ys t)
    → xs ≡ ys
same_from_bits xs ys e same = search (rules, same_lists, get_or_default)
