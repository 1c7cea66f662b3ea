-- Lists of bits over packed words: what each change of the words makes of the list, and that the words stay packed.
use Rattle.nr_bitvec.proofs.Common.{nat_tests, ◌≡◌, ◌≢◌, ℕ, ◌+◌, ◌-◌, ◌*◌, ◌/◌, ◌%◌, ◌^◌}
use Rattle.nr_bitvec.proofs.Common.{◌<◌, ◌≤◌, ◌==◌, inl, inr, Bool, true, false, List, [], ◌∷◌, ◌++◌}
use Rattle.nr_bitvec.proofs.Common.{get_or-set_same, get_or-set_other, cases_lt, cases_eq, get_or_append_left, get_or-append_right}
use Rattle.nr_bitvec.proofs.Common.{length-map-range_with_len, get_or-map-range_with_len, bit_at-lt, bit_at_xor, bit_at, from_bool}
use Rattle.nr_bitvec.proofs.Common.{bit_and, bit_xor, bit, low_first, place, bits_of_words, moved_place, IsPacked, Grows}
use Rattle.nr_bitvec.proofs.Common.{length, get_or, set, refl, ap, sym, ◌∙◌, arith, length-append, length-set}
use Rattle.nr_bitvec.specs.inside.Packed.{Changes}
use Rattle.nr_bitvec.proofs.PlaceFacts.{length-unpacked, bit-place, same_from_bits, place-set_other}
use Rattle.nr_bitvec.proofs.AddedBitFacts.{moved_below, moved_from, kept}
use Rattle.std.proofs.lemmas.Nat.Bits.{shr_and_one}

-- a list that has n bits, each of them the place of the words, is their view
pub unpacked-is : (n : ℕ) (ws : List ℕ) (items : List Bool) → length items ≡ n
    → ((t : ℕ) → t < n → (place ws t == 1) ≡ bit items t) → bits_of_words n ws ≡ items
unpacked-is n ws items e same = grind (arith, nat_tests, same_from_bits, length-unpacked, get_or-map-range_with_len)

-- the first bits of a word
pub length-low_first : (n word : ℕ) → length (low_first n word) ≡ n
unfolding low_first
length-low_first n word = length-map-range_with_len (λ j. bit_at word j == 1) 0 n

pub bit-low_first : (n word j : ℕ) → j < n → bit (low_first n word) j ≡ (bit_at word j == 1)
unfolding low_first
bit-low_first n word j h = get_or-map-range_with_len (λ k. bit_at word k == 1) 0 n j j false h (omega arith)

-- one bit is the first of its number
pub low_first-bool : (b : Bool) → low_first 1 (from_bool b) ≡ b ∷ []
unfolding low_first
low_first-bool true = refl
low_first-bool false = refl

-- a bit below the length
pub bit-within : (n : ℕ) (ws : List ℕ) (t : ℕ) → t < n → bit (bits_of_words n ws) t ≡ (place ws t == 1)
bit-within n ws t h = get_or-map-range_with_len (λ u. place ws u == 1) 0 n t t false h (omega arith)

-- a test of one bit of a word
pub get-place : (n : ℕ) (ws : List ℕ) (t m : ℕ) → t < n → m ≡ get_or ws (t / 64) 0
    → (bit_and (m / 2 ^ (t % 64)) 1 == 1) ≡ bit (bits_of_words n ws) t
get-place n ws t m h e = grind (arith, nat_tests, shr_and_one, bit-within)

-- what is read at a window
pub window-place : (n : ℕ) (ws : List ℕ) (at r j : ℕ) → IsPacked n ws
    → bit_at r j ≡ place ws (64 * (at / 64) + at % 64 + j) → (bit_at r j == 1) ≡ bit (bits_of_words n ws) (at + j)
window-place n ws at r j packed e = grind (arith, nat_tests, bit-place)

-- ---- more bits of a word

pub word-items : (n count : ℕ) (ws new : List ℕ) (word bits : ℕ) → Grows n count bits ws new
    → ((j : ℕ) → j < count → bit_at bits j ≡ bit_at word j)
    → bits_of_words (n + count) new ≡ bits_of_words n ws ++ low_first count word
word-items n count ws new word bits grows same =
    unpacked-is (n + count) new (bits_of_words n ws ++ low_first count word)
    (length-append (bits_of_words n ws) (low_first count word) ∙ omega (arith, length-unpacked n ws, length-low_first count word))
    (λ t h. elim (cases_lt t n) [
      | inl old ↦ ap (λ k. k == 1) (grows.before t old) ∙ sym (bit-within n ws t old)
          ∙ sym (get_or_append_left (bits_of_words n ws) (low_first count word) false t
          (omega (arith, old, length-unpacked n ws)))
      | inr here ↦
          let within : t - n < count = omega (arith, h, here) in
          ap (λ k. k == 1) (grows.within t here ∙ same (t - n) within) ∙ sym (bit-low_first count word (t - n) within)
          ∙ sym (get_or-append_right (bits_of_words n ws) (low_first count word) n t false (length-unpacked n ws) here)
    ])

pub word-packed : (n count : ℕ) (ws new : List ℕ) (bits : ℕ) → n + count ≤ 2 ^ 24 → Grows n count bits ws new
    → ((j : ℕ) → count ≤ j → bit_at bits j ≡ 0) → IsPacked (n + count) new
word-packed n count ws new bits short grows high = grind arith

-- ---- bits put in their places

-- by the bits that were there
pub changes-from : (ws : List ℕ) (at count n window change : ℕ) → count ≤ 64
    → ((j : ℕ) → j < 64 → bit_at window j ≡ place ws (64 * (at / 64) + at % 64 + j))
    → ((j : ℕ) → j < count → bit_at change j ≡ bit_at (bit_xor window n) j)
    → ((j : ℕ) → count ≤ j → bit_at change j ≡ 0) → Changes ws at count n change
changes-from ws at count n window change few read low high = grind (arith, bit_at_xor)

pub put-none : (n : ℕ) (ws : List ℕ) (at count word change j : ℕ) → IsPacked n ws → at + count ≤ n
    → Changes ws at count word change → 64 * length ws ≤ at + j → bit_at change j ≡ 0
put-none n ws at count word change j packed inside changes h = changes.high j (omega (arith, packed.below, inside, h))

put-kept : (ws new : List ℕ) (at change t : ℕ) → place new t ≡ (place ws t + moved_place at change t) % 2
    → moved_place at change t ≡ 0 → place new t ≡ place ws t
put-kept ws new at change t e none = e ∙ sym (kept ws at change t none)

put-after_place : (ws new : List ℕ) (at count word change t : ℕ) → Changes ws at count word change
    → place new t ≡ (place ws t + moved_place at change t) % 2 → at + count ≤ t → place new t ≡ place ws t
put-after_place ws new at count word change t changes e h = grind (arith, put-kept, moved_from)

put-packed : (n : ℕ) (ws new : List ℕ) (at count word change : ℕ) → IsPacked n ws → at + count ≤ n
    → Changes ws at count word change → length new ≡ length ws
    → ((t : ℕ) → place new t ≡ (place ws t + moved_place at change t) % 2) → IsPacked n new
put-packed n ws new at count word change packed inside changes long flips = grind (arith, put-after_place)

-- a bit that is added twice
twice : (p b : ℕ) → p < 2 → b < 2 → (p + (p + b) % 2) % 2 ≡ b
twice p b h g = omega arith

put-within : (n : ℕ) (ws new : List ℕ) (at count word change t : ℕ) → at + count ≤ n → Changes ws at count word change
    → ((t : ℕ) → place new t ≡ (place ws t + moved_place at change t) % 2) → t < count
    → bit (bits_of_words n new) (at + t) ≡ (bit_at word t == 1)
put-within n ws new at count word change t inside changes flips h =
    let i : at + t - at ≡ t = omega arith in
    let m : moved_place at change (at + t) ≡ (place ws (at + t) + bit_at word t) % 2 =
    moved_from at change (at + t) (omega arith) ∙ ap (bit_at change) i ∙ changes.low t h in
    bit-within n new (at + t) (omega (arith, inside, h))
    ∙ ap (λ k. k == 1) (flips (at + t) ∙ ap (λ k. (place ws (at + t) + k) % 2) m
    ∙ twice (place ws (at + t)) (bit_at word t) (bit_at-lt (get_or ws ((at + t) / 64) 0) ((at + t) % 64)) (bit_at-lt word t))

put-before : (n : ℕ) (ws new : List ℕ) (at count word change t : ℕ) → IsPacked n ws → IsPacked n new
    → ((t : ℕ) → place new t ≡ (place ws t + moved_place at change t) % 2) → t < at
    → bit (bits_of_words n new) t ≡ bit (bits_of_words n ws) t
put-before n ws new at count word change t old packed flips h = grind (arith, nat_tests, bit-place, put-kept, moved_below)

put-after : (n : ℕ) (ws new : List ℕ) (at count word change t : ℕ) → IsPacked n ws → IsPacked n new
    → Changes ws at count word change
    → ((t : ℕ) → place new t ≡ (place ws t + moved_place at change t) % 2) → at + count ≤ t
    → bit (bits_of_words n new) t ≡ bit (bits_of_words n ws) t
put-after n ws new at count word change t old packed changes flips h = grind (arith, nat_tests, bit-place, put-after_place)

-- all that a write by `Changes` makes of the list
pub record Puts (n at count word : ℕ) (ws new : List ℕ) : Type 0 where
  pub packed : IsPacked n new
  pub within : (t : ℕ) → t < count → bit (bits_of_words n new) (at + t) ≡ (bit_at word t == 1)
  pub before : (t : ℕ) → t < at → bit (bits_of_words n new) t ≡ bit (bits_of_words n ws) t
  pub after : (t : ℕ) → at + count ≤ t → bit (bits_of_words n new) t ≡ bit (bits_of_words n ws) t

pub puts : (n : ℕ) (ws new : List ℕ) (at count word change : ℕ) → IsPacked n ws → at + count ≤ n
    → Changes ws at count word change → length new ≡ length ws
    → ((t : ℕ) → place new t ≡ (place ws t + moved_place at change t) % 2) → Puts n at count word ws new
puts n ws new at count word change old inside changes long flips =
    let packed : IsPacked n new = put-packed n ws new at count word change old inside changes long flips in
    record {
      packed = packed;
      within = λ t. put-within n ws new at count word change t inside changes flips;
      before = λ t. put-before n ws new at count word change t old packed flips;
      after = λ t. put-after n ws new at count word change t old packed changes flips;
    }

-- a whole word that replaces another
place-set : (ws : List ℕ) (k w t : ℕ) → k < length ws → t / 64 ≡ k → place (set ws k w) t ≡ bit_at w (t % 64)
place-set ws k w t h e = ap (λ m. bit_at (get_or (set ws k w) m 0) (t % 64)) e
    ∙ ap (λ m. bit_at m (t % 64)) (get_or-set_same ws k w 0 h)

module _ (n at count word : ℕ) (ws : List ℕ) (old : IsPacked n ws) (whole : at % 64 ≡ 0) (full : count ≡ 64)
    (inside : at + count ≤ n) where
  abbrev stored : List ℕ
  stored = set ws (at / 64) word

  stored-packed : IsPacked n stored
  stored-packed = record {
    short = old.short;
    above = omega (arith, old.above, length-set ws (at / 64) word);
    below = omega (arith, old.below, length-set ws (at / 64) word);
    clear = λ t h. place-set_other ws (at / 64) word t (λ e. omega (arith, e, h, whole, inside, full)) ∙ old.clear t h;
  }

  stored-other : (t : ℕ) → t / 64 ≢ at / 64 → bit (bits_of_words n stored) t ≡ bit (bits_of_words n ws) t
  stored-other t ne =
      bit-place n stored t stored-packed.clear ∙ ap (λ k. k == 1) (place-set_other ws (at / 64) word t ne)
      ∙ sym (bit-place n ws t old.clear)

  pub puts-word : Puts n at count word ws stored
  puts-word = record {
    packed = stored-packed;
    within = λ t h.
        let i : (at + t) % 64 ≡ t = omega (arith, whole, h, full) in
        bit-within n stored (at + t) (omega (arith, inside, h))
        ∙ ap (λ k. k == 1) (place-set ws (at / 64) word (at + t) (omega (arith, old.below, inside, full, whole))
        (omega (arith, whole, h, full)) ∙ ap (bit_at word) i);
    before = λ t h. stored-other t (λ e. omega (arith, e, h, whole));
    after = λ t h. stored-other t (λ e. omega (arith, e, h, whole, full));
  }

-- the lowest bit of a truth value
lowest : (b : Bool) → (bit_at (from_bool b) 0 == 1) ≡ b
lowest true = refl
lowest false = refl

-- one bit put, as a write of the list
pub set-items : (old new : List Bool) (i : ℕ) (b : Bool) → i < length old → length new ≡ length old
    → ((t : ℕ) → t < 1 → bit new (i + t) ≡ (bit_at (from_bool b) t == 1))
    → ((t : ℕ) → t < i → bit new t ≡ bit old t) → ((t : ℕ) → i + 1 ≤ t → bit new t ≡ bit old t)
    → new ≡ set old i b
set-items old new i b h long within before after =
    grind (arith, nat_tests, same_from_bits, length-set, cases_eq, lowest, get_or-set_same, cases_lt, get_or-set_other)
