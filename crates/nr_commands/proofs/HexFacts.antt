-- Bits in hexadecimal digits, 128 bits a turn, and the digits of two words lane by lane.
use Rattle.nr_commands.proofs.Common.{◌≡◌, ℕ, ◌+◌, ◌*◌, ◌≤◌, zero, suc, Bool, List, [], ◌∷◌, ◌++◌}
use Rattle.nr_commands.proofs.Common.{length, take, drop, ap, sym, ◌∙◌, refl, arith, append_assoc, length-append, ◌<◌}
use Rattle.nr_commands.proofs.Common.{inl, inr, false, map, get_or, subst, w8, length-map, hex, first_digits, range_with_len}
use Rattle.nr_commands.specs.inside.Words.{turned_char, turned_digits}
use Rattle.nr_commands.specs.declared.hex.TheConstants.{IN_TURN, TURNED}
use Rattle.std.proofs.Common.{◌/◌, drop-drop, ◌-◌, ◌%◌, ◌^◌, ◌==◌, replicate, bit_and, Fits, get_or-drop}
use Rattle.std.{proofs.Math.Seq.take-append_seam, proofs.Math.Seq.take-append-add, specs.Char.digit_char, specs.Int.bit_at}
use Rattle.std.proofs.lemmas.{List.take_all, List.ext_get_or, List.get_or-map, Bool.cases_lt, List.FromFn.get_or-map-range_with_len}
use Rattle.std.proofs.lemmas.Simd.{below_from_Fits, get_or-swz_l_below, length-swz_l, map-map, pick_l_whole, swz_l, zip2_splat}
use Rattle.std.proofs.lemmas.Simd.{take_more_put_chunk, Each1-all, Each1-get_or, Each1-weaker, Each1-zip2, Each2-splat}
use Rattle.std.specs.Simd.Lanes.{put_chunk, Each1, digits_l, number_l, pick_l, zip2}
use Rattle.std.{proofs.lemmas.Nat.and_le_r, proofs.lemmas.Nat.and_mask, specs.List.flat_map}
use Rattle.std.proofs.lemmas.Nat.Bits.{bit_at-lt, bit_at_cat_high, bit_at_cat_low, same_from_bits_below}
use Rattle.nr_bitvec.{specs.BitList.number_of, specs.BitList.low_first, specs.Bit.bit, proofs.PackedListFacts.bit-low_first}
use Rattle.nr_bitvec.proofs.BitFacts.{bit_at_mod, bit_at_shr}
use Rattle.nr_bitvec.proofs.OctetListFacts.{bit-number_of, number_of-lt, same_bit}

-- the digits after others
first_digits-add : (n m : ℕ) (bits : List Bool)
    → first_digits (n + m) bits ≡ first_digits n bits ++ first_digits m (drop (4 * n) bits)
unfolding first_digits
first_digits-add zero m bits = ap (λ k. first_digits k bits) (omega arith)
first_digits-add (suc n) m bits =
    let next : suc n + m ≡ suc (n + m) = omega arith in
    ap (λ k. first_digits k bits) next
    ∙ ap (λ ds. digit_char (number_of 4 bits) ∷ ds) (first_digits-add n m (drop 4 bits)
    ∙ ap (λ ds. first_digits n (drop 4 bits) ++ ds)
    (ap (first_digits m) (drop-drop (4 * n) 4 bits ∙ ap (λ k. drop k bits) (omega arith))))

-- the digits of 128 more bits
first_digits-more : (i : ℕ) (bits : List Bool)
    → first_digits (32 * (i + 1)) bits ≡ first_digits (32 * i) bits ++ first_digits 32 (drop (128 * i) bits)
first_digits-more i bits =
    let next : 32 * (i + 1) ≡ 32 * i + 32 = omega arith in
    let far : 4 * (32 * i) ≡ 128 * i = omega arith in
    rw (next, first_digits-add (32 * i) 32 bits, far) refl

-- as many digits as the bits need
hex-digits : (n : ℕ) (bits : List Bool) → (length bits + 3) / 4 ≤ n
    → take ((length bits + 3) / 4) (first_digits n bits) ≡ hex bits
unfolding hex first_digits
hex-digits n [] enough = refl
hex-digits zero (a ∷ bits) enough = absurd (omega (arith, enough))
hex-digits (suc n) (a ∷ []) enough = refl
hex-digits (suc n) (a ∷ b ∷ []) enough = refl
hex-digits (suc n) (a ∷ b ∷ c ∷ []) enough = refl
hex-digits (suc n) (a ∷ b ∷ c ∷ d ∷ bits) enough =
    let next : (length (a ∷ b ∷ c ∷ d ∷ bits) + 3) / 4 ≡ suc ((length bits + 3) / 4) = omega arith in
    rw (next, hex-digits n bits (omega (arith, enough))) refl

-- a line with more digits after its head, cut to those that the bits need
pub hex_cut : (head line : List ℕ) (bits : List Bool) (m n : ℕ) → line ≡ head ++ first_digits m bits
    → (length bits + 3) / 4 ≤ m → n ≡ length head + (length bits + 3) / 4 → take n line ≡ head ++ hex bits
hex_cut head line bits m n put enough most = grind (arith, take-append-add, hex-digits)

-- how many digits there are
pub length-first_digits : (n : ℕ) (bits : List Bool) → length (first_digits n bits) ≡ n
unfolding first_digits
length-first_digits zero bits = refl
length-first_digits (suc n) bits = ap suc (length-first_digits n (drop 4 bits))

-- ---- a loop that stores them

-- the digits of 128 more bits, put after those of the bits before them
pub stored-more : (i : ℕ) (digits written : List ℕ) (bits : List Bool) → 32 * i + 32 ≤ length digits
    → written ≡ first_digits 32 (drop (128 * i) bits)
    → take (32 * i) digits ≡ first_digits (32 * i) bits
    → take (32 * (i + 1)) (put_chunk (32 * i) digits written) ≡ first_digits (32 * (i + 1)) bits
stored-more i digits written bits within is_written so_far =
    let long : length written ≡ 32 = ap length is_written ∙ length-first_digits 32 (drop (128 * i) bits) in
    take_more_put_chunk (32 * i) digits written (32 * (i + 1)) (omega arith) (omega arith)
    ∙ ap (λ xs. xs ++ written) so_far
    ∙ ap (λ xs. first_digits (32 * i) bits ++ xs) is_written
    ∙ sym (first_digits-more i bits)

-- ---- room after a line

-- room is made: the line is before it
pub room_made : (line made room : List ℕ) (start n : ℕ) → start ≡ length line → start ≤ n
    → made ≡ take n line ++ room → take start made ≡ line
room_made line made room start n at within e = grind (arith, take_all, take-append_seam)

-- room is filled: nothing follows the digits that are put there
pub room_filled : (line before digits rest past : List ℕ) (n : ℕ) → before ≡ line → n ≡ length line + length digits
    → take n ((before ++ (digits ++ rest)) ++ past) ≡ line ++ digits
room_filled line before digits rest past n same e =
    ap (take n) (ap (λ xs. (xs ++ (digits ++ rest)) ++ past) same ∙ append_assoc line (digits ++ rest) past
    ∙ ap (λ xs. line ++ xs) (append_assoc digits rest past) ∙ sym (append_assoc line digits (rest ++ past)))
    ∙ ap (λ k. take k ((line ++ digits) ++ (rest ++ past))) (e ∙ sym (length-append line digits))
    ∙ take-append_seam (line ++ digits) (rest ++ past)

-- ---- lane by lane

-- ---- the lookup

turned-all : TURNED ≡ map turned_char (range_with_len 0 16)
unfolding turned_char low_first
turned-all = refl

turned-is : (value : ℕ) → value < 16 → get_or TURNED value 0 ≡ turned_char value
turned-is value small = ap (λ xs. get_or xs value 0) turned-all
    ∙ get_or-map-range_with_len turned_char 0 16 value value 0 small (omega arith)

-- the characters of values, lane by lane
pub characters : (values : List ℕ) → length values ≡ 16 → Each1 (λ value. value < 16) values
    → swz_l w8 16 TURNED 0 values ≡ map turned_char values
characters values long small =
    ext_get_or 0 (swz_l w8 16 TURNED 0 values) (map turned_char values) (length-swz_l w8 16 TURNED 0 values
    ∙ sym (length-map values turned_char))
    (λ i h.
    let within : i < length values = omega (arith, h, length-swz_l w8 16 TURNED 0 values) in
    let below : get_or values i 0 < 16 = Each1-get_or (λ value. value < 16) values i 0 within small in
    let place : 16 * ((0 + i) / 16) + get_or values i 0 ≡ get_or values i 0 = omega (arith, within, long) in
    get_or-swz_l_below w8 16 TURNED 0 values i within below ∙ ap (λ k. get_or TURNED k 0) place
    ∙ turned-is (get_or values i 0) below
    ∙ sym (get_or-map turned_char values i 0 0 within))

-- ---- the digits' values

abbrev pub down : ℕ → ℕ → ℕ
down a b = a / 2 ^ b

pub high-small : (octets : List ℕ) → Each1 (λ value. value < 16) (zip2 bit_and octets (replicate 16 15))
high-small octets =
    let small = Each1-all (λ a. bit_and a 15 < 16) (λ a. omega (arith, and_le_r a 15)) octets in
    Each1-zip2 bit_and (λ j. j < 16) octets (replicate 16 15) (Each2-splat (λ a b. bit_and a b < 16) octets 16 15 small)

pub low-small : (octets : List ℕ) → Each1 (Fits w8) octets → Each1 (λ value. value < 16) (zip2 down octets (replicate 16 4))
low-small octets fit =
    let small = Each1-weaker (λ a. a < 256) (λ a. a / 16 < 16) (λ a h. omega arith) octets (below_from_Fits w8 octets fit) in
    Each1-zip2 down (λ j. j < 16) octets (replicate 16 4) (Each2-splat (λ a b. down a b < 16) octets 16 4 small)

-- two lists computed from sixteen octets, in turn
in_turn : (f g : ℕ → ℕ) (octets : List ℕ) → length octets ≡ 16
    → pick_l 0 (map f octets ++ map g octets) IN_TURN ≡ flat_map (λ octet. f octet ∷ g octet ∷ []) octets
in_turn f g octets long =
    subst (λ w. pick_l 0 (map f w ++ map g w) IN_TURN ≡ flat_map (λ octet. f octet ∷ g octet ∷ []) w)
    (pick_l_whole 0 octets 16 long) refl

-- the characters of both digits of sixteen octets, in turn
pub digits-in_turn : (octets high low : List ℕ) → length octets ≡ 16
    → high ≡ map turned_char (zip2 bit_and octets (replicate 16 15))
    → low ≡ map turned_char (zip2 down octets (replicate 16 4))
    → pick_l 0 (high ++ low) IN_TURN ≡ flat_map turned_digits octets
digits-in_turn octets high low long is_high is_low =
    let first : high ≡ map (λ octet. turned_char (bit_and octet 15)) octets =
    is_high ∙ ap (map turned_char) (zip2_splat bit_and octets 16 15 long)
    ∙ map-map turned_char (λ octet. bit_and octet 15) octets in
    let second : low ≡ map (λ octet. turned_char (octet / 16)) octets =
    is_low ∙ ap (map turned_char) (zip2_splat down octets 16 4 long) ∙ map-map turned_char (λ octet. octet / 16) octets in
    rw (first, second) (in_turn (λ octet. turned_char (bit_and octet 15)) (λ octet. turned_char (octet / 16)) octets long
    ∙ masked octets)
  where
    masked : (os : List ℕ)
        → flat_map (λ octet. turned_char (bit_and octet 15) ∷ turned_char (octet / 16) ∷ []) os ≡ flat_map turned_digits os
    masked [] = refl
    masked (octet ∷ os) = rw (and_mask octet 4, masked os) refl

-- ---- two words

-- a number with the bits of a digit, the lowest first
digit-is : (value : ℕ) (bits : List Bool) → ((j : ℕ) → j < 4 → (bit_at value j == 1) ≡ bit bits j)
    → turned_char value ≡ digit_char (number_of 4 bits)
unfolding turned_char
digit-is value bits same =
    ap digit_char (same_from_bits_below 4 (number_of 4 (low_first 4 value)) (number_of 4 bits) (number_of-lt 4 (low_first 4 value))
    (number_of-lt 4 bits)
    (λ j h. same_bit (bit_at (number_of 4 (low_first 4 value)) j) (bit_at (number_of 4 bits) j)
    (bit_at-lt (number_of 4 (low_first 4 value)) j) (bit_at-lt (number_of 4 bits) j)
    (bit-number_of 4 (low_first 4 value) j h ∙ bit-low_first 4 value (4 - 1 - j) (omega (arith, h))
    ∙ same (4 - 1 - j) (omega (arith, h)) ∙ sym (bit-number_of 4 bits j h))))

-- octets with the bits of a list, the lowest first, write its digits
octets-digits : (n number : ℕ) (bits : List Bool) → ((j : ℕ) → j < 8 * n → (bit_at number j == 1) ≡ bit bits j)
    → flat_map turned_digits (digits_l 256 n number) ≡ first_digits (2 * n) bits
unfolding first_digits
octets-digits zero number bits same = refl
octets-digits (suc n) number bits same =
    let octet = number % 2 ^ 8 in
    let two : 2 * suc n ≡ suc (suc (2 * n)) = omega arith in
    let first : turned_char (octet % 16) ≡ digit_char (number_of 4 bits) =
    digit-is (octet % 2 ^ 4) bits
    (λ j h. ap (λ k. k == 1) (bit_at_mod octet 4 j h ∙ bit_at_mod number 8 j (omega (arith, h)))
    ∙ same j (omega (arith, h))) in
    let second : turned_char (octet / 16) ≡ digit_char (number_of 4 (drop 4 bits)) =
    digit-is (octet / 2 ^ 4) (drop 4 bits)
    (λ j h. ap (λ k. k == 1) (bit_at_shr octet 4 j ∙ bit_at_mod number 8 (4 + j) (omega (arith, h)))
    ∙ same (4 + j) (omega (arith, h)) ∙ sym (get_or-drop 4 bits j false)) in
    let rest : flat_map turned_digits (digits_l 256 n (number / 2 ^ 8)) ≡ first_digits (2 * n) (drop 4 (drop 4 bits)) =
    octets-digits n (number / 2 ^ 8) (drop 4 (drop 4 bits)) (λ j h.
    let far : 4 + (4 + j) ≡ 8 + j = omega arith in
    ap (λ k. k == 1) (bit_at_shr number 8 j) ∙ same (8 + j) (omega (arith, h))
    ∙ sym (get_or-drop 4 (drop 4 bits) j false ∙ get_or-drop 4 bits (4 + j) false ∙ ap (bit bits) far)) in
    rw (two, first, second, rest) refl

-- two words, each with the bits from its place on
pub words-digits : (a b at : ℕ) (bits : List Bool) → a < 2 ^ 64
    → ((j : ℕ) → j < 64 → (bit_at a j == 1) ≡ bit bits (at + j))
    → ((j : ℕ) → j < 64 → (bit_at b j == 1) ≡ bit bits (at + 64 + j))
    → flat_map turned_digits (digits_l 256 16 (number_l (2 ^ 64) (a ∷ b ∷ []))) ≡ first_digits 32 (drop at bits)
words-digits a b at bits is_word first second =
    let both : number_l (2 ^ 64) (a ∷ b ∷ []) ≡ b * 2 ^ 64 + a = omega arith in
    ap (λ n. flat_map turned_digits (digits_l 256 16 n)) both
    ∙ octets-digits 16 (b * 2 ^ 64 + a) (drop at bits) (λ j h. elim (cases_lt j 64) [
      | inl low ↦ ap (λ k. k == 1) (bit_at_cat_low b 64 a j low) ∙ first j low ∙ sym (get_or-drop at bits j false)
      | inr high ↦
          let place : at + 64 + (j - 64) ≡ at + j = omega (arith, high) in
          ap (λ k. k == 1) (bit_at_cat_high b 64 a j is_word high) ∙ second (j - 64) (omega (arith, h, high))
          ∙ ap (bit bits) place ∙ sym (get_or-drop at bits j false)
    ])
