-- The octets that pairs of hexadecimal digits write, pair by pair, and sixteen pairs lane by lane.
use Rattle.nr_files.proofs.Common.{◌≡◌, ℕ, ◌+◌, ◌*◌, ◌<◌, suc, zero, List, [], ◌∷◌, ◌++◌, length}
use Rattle.nr_files.proofs.Common.{take, get_or, set, refl, ap, sym, ◌∙◌, arith, ◌≤◌, Bool, true, false, ◌&&◌, cond}
use Rattle.nr_files.proofs.Common.{nat_lt, map, drop, replicate, take_more, is_ascii_hexdigit, octets_of_digits, nat_tests}
use Rattle.nr_files.proofs.Common.{take-add, list_all, range_with_len, fill_by_all, get_or-map-range_with_len}
use Rattle.nr_files.specs.declared.blocks.TheConstants.{EVEN, ODD}
use Rattle.std.proofs.{Common.◌/◌, Common.◌%◌, Common.◌^◌, Common.IsTrue, Common.bit_and, lemmas.Nat.and_mask}
use Rattle.std.{proofs.lemmas.List.take_more_set, proofs.lemmas.List.drop-drop, specs.Char.digit_value}
use Rattle.std.proofs.lemmas.Simd.{Each1-get_or, Each1-from_get_or, take_more_put_chunk, map-map, zip2_of_maps, splat_is_map}
use Rattle.std.specs.Simd.Lanes.{Each1, chunk, pick_l, put_chunk, sel_l, top, zip2}

-- there are half as many octets as digits
pub length-octets_of_digits : (xs : List ℕ) → length (octets_of_digits xs) ≡ length xs / 2
unfolding octets_of_digits
length-octets_of_digits [] = refl
length-octets_of_digits (a ∷ []) = refl
length-octets_of_digits (a ∷ b ∷ xs) = omega (arith, length-octets_of_digits xs)

-- what the pair of digits i writes
pub octet-at : (xs : List ℕ) (i : ℕ) → 2 * i + 1 < length xs
    → get_or (octets_of_digits xs) i 0 ≡ 16 * digit_value (get_or xs (2 * i) 0) + digit_value (get_or xs (2 * i + 1) 0)
unfolding octets_of_digits
octet-at [] i h = absurd (omega (arith, h))
octet-at (a ∷ []) i h = absurd (omega (arith, h))
octet-at (a ∷ b ∷ xs) zero h = refl
octet-at (a ∷ b ∷ xs) (suc i) h =
    let low : 2 * suc i + 1 ≡ suc (suc (2 * i + 1)) = omega arith in
    let high : 2 * suc i ≡ suc (suc (2 * i)) = omega arith in
    rw (low, high) (octet-at xs i (omega (arith, h)))

-- the octet of pair i, put after those of the pairs before it
pub octets_more : (xs octets : List ℕ) (i : ℕ) → i < length octets → length octets ≡ length xs / 2
    → take i octets ≡ take i (octets_of_digits xs)
    → take (i + 1) (set octets i (16 * digit_value (get_or xs (2 * i) 0) + digit_value (get_or xs (2 * i + 1) 0)))
    ≡ take (i + 1) (octets_of_digits xs)
octets_more xs octets i h half so_far =
    let o = 16 * digit_value (get_or xs (2 * i) 0) + digit_value (get_or xs (2 * i + 1) 0) in
    let more = take_more (octets_of_digits xs) i 0 (omega (arith, h, half, length-octets_of_digits xs)) in
    rw (take_more_set octets i o h, so_far, more, octet-at xs i (omega (arith, h, half))) refl

-- ---- lane by lane

abbrev pub IsDigit : ℕ → Type 0
IsDigit character = IsTrue (is_ascii_hexdigit character)

-- the value of a digit, by whether it is a figure
value : (character : ℕ) → IsDigit character
    → (bit_and character 15 + cond (top 7 (cond (nat_lt character 64) 255 0)) 0 9) % 2 ^ 8 ≡ digit_value character
value character is = grind (arith, nat_tests, and_mask character 4)

-- the values of digits, lane by lane
pub values : (n : ℕ) (characters : List ℕ) → length characters ≡ n → Each1 IsDigit characters
    → zip2 (λ a b. (a + b) % 2 ^ 8) (zip2 bit_and characters (replicate n 15))
    (sel_l (map (top 7) (zip2 (λ a b. cond (nat_lt a b) 255 0) characters (replicate n 64))) (replicate n 0) (replicate n 9))
    ≡ map digit_value characters
values n [] long digits = refl
values zero (character ∷ characters) long digits = absurd (omega (arith, long))
values (suc n) (character ∷ characters) long (is, digits) =
    rw (value character is, values n characters (omega (arith, long)) digits) refl

-- a text of digits alone
pub all-digits : (xs : List ℕ) → IsTrue (list_all is_ascii_hexdigit xs) → Each1 IsDigit xs
all-digits [] all = tt
all-digits (x ∷ xs) all = let p = split (is_ascii_hexdigit x) _ all in (p.0, all-digits xs p.1)
  where
    split : (a b : Bool) → IsTrue (a && b) → IsTrue a × IsTrue b
    split true b h = (refl, h)
    split false b h = cc

pub digits-joined : (xs ys : List ℕ) → Each1 IsDigit xs → Each1 IsDigit ys → Each1 IsDigit (xs ++ ys)
digits-joined [] ys first second = second
digits-joined (x ∷ xs) ys (is, first) second = (is, digits-joined xs ys first second)

-- ---- every other character of thirty-two

abbrev picked : (ℕ → ℕ) → List ℕ → List ℕ
picked place xs = map (λ j. get_or xs (place j) 0) (range_with_len 0 16)

even : (xs : List ℕ) → pick_l 0 xs EVEN ≡ picked (λ j. 2 * j) xs
even xs = refl

odd : (xs : List ℕ) → pick_l 0 xs ODD ≡ picked (λ j. 2 * j + 1) xs
odd xs = refl

picked-digits : (place : ℕ → ℕ) (xs : List ℕ) → Each1 IsDigit xs → ((j : ℕ) → j < 16 → place j < length xs)
    → Each1 IsDigit (picked place xs)
picked-digits place xs digits inside = Each1-from_get_or IsDigit (picked place xs) 0
    (λ i h. rw (get_or-map-range_with_len (λ j. get_or xs (place j) 0) 0 16 i i 0 h (omega arith))
    (Each1-get_or IsDigit xs (place i) 0 (inside i h) digits))

pub even-digits : (xs : List ℕ) → length xs ≡ 32 → Each1 IsDigit xs → Each1 IsDigit (pick_l 0 xs EVEN)
even-digits xs long digits = picked-digits (λ j. 2 * j) xs digits (λ j h. omega (arith, long, h))

pub odd-digits : (xs : List ℕ) → length xs ≡ 32 → Each1 IsDigit xs → Each1 IsDigit (pick_l 0 xs ODD)
odd-digits xs long digits = picked-digits (λ j. 2 * j + 1) xs digits (λ j h. omega (arith, long, h))

small : (character : ℕ) → IsDigit character → digit_value character < 16
small character is = grind (arith, nat_tests)

-- the octets of thirty-two digits, by the values of the high ones and of the low ones
pub octets : (xs high low : List ℕ) → length xs ≡ 32 → Each1 IsDigit xs → high ≡ map digit_value (pick_l 0 xs EVEN)
    → low ≡ map digit_value (pick_l 0 xs ODD)
    → zip2 (λ a b. (a + b) % 2 ^ 8) (zip2 (λ a b. a * 2 ^ b % 2 ^ 8) high (replicate 16 4)) low ≡ octets_of_digits xs
octets xs high low long digits is_high is_low =
    let R = range_with_len 0 16 in
    let h : ℕ → ℕ = λ j. digit_value (get_or xs (2 * j) 0) in
    let l : ℕ → ℕ = λ j. digit_value (get_or xs (2 * j + 1) 0) in
    let first : high ≡ map h R = is_high ∙ map-map digit_value (λ j. get_or xs (2 * j) 0) R in
    let second : low ≡ map l R = is_low ∙ map-map digit_value (λ j. get_or xs (2 * j + 1) 0) R in
    let moved = zip2_of_maps (λ a b. a * 2 ^ b % 2 ^ 8) h (λ _. 4) R first (splat_is_map R 16 4 refl) in
    zip2_of_maps (λ a b. (a + b) % 2 ^ 8) (λ j. h j * 2 ^ 4 % 2 ^ 8) l R moved second
    ∙ sym (fill_by_all (λ j. (h j * 2 ^ 4 % 2 ^ 8 + l j) % 2 ^ 8) (octets_of_digits xs) 16 0
    (omega (arith, long, length-octets_of_digits xs)) (λ k below.
    octet-at xs k (omega (arith, long, below))
    ∙ omega (
      arith,
      small (get_or xs (2 * k) 0) (Each1-get_or IsDigit xs (2 * k) 0 (omega (arith, long, below)) digits),
      small (get_or xs (2 * k + 1) 0) (Each1-get_or IsDigit xs (2 * k + 1) 0 (omega (arith, long, below)) digits),
    )))

-- ---- part of a text

two : (k : ℕ) → 2 * suc k ≡ suc (suc (2 * k))
two k = omega arith

octets-drop : (k : ℕ) (xs : List ℕ) → drop k (octets_of_digits xs) ≡ octets_of_digits (drop (2 * k) xs)
unfolding octets_of_digits
octets-drop zero xs = refl
octets-drop (suc k) [] = rw (two k) refl
octets-drop (suc k) (a ∷ []) = rw (two k) refl
octets-drop (suc k) (a ∷ b ∷ xs) = rw (two k) (octets-drop k xs)

octets-take : (k : ℕ) (xs : List ℕ) → take k (octets_of_digits xs) ≡ octets_of_digits (take (2 * k) xs)
unfolding octets_of_digits
octets-take zero xs = refl
octets-take (suc k) [] = rw (two k) refl
octets-take (suc k) (a ∷ []) = rw (two k) refl
octets-take (suc k) (a ∷ b ∷ xs) = rw (two k, octets-take k xs) refl

-- sixteen more octets, put after those of the digits before them
pub sixteen_more : (line octets written : List ℕ) (i : ℕ) → 16 * i + 16 ≤ length octets → length written ≡ 16
    → written ≡ octets_of_digits (chunk (32 * i) 16 line ++ chunk (32 * i + 16) 16 line)
    → take (16 * i) octets ≡ take (16 * i) (octets_of_digits line)
    → take (16 * (i + 1)) (put_chunk (16 * i) octets written) ≡ take (16 * (i + 1)) (octets_of_digits line)
sixteen_more line octets written i within long is_written so_far =
    let next : 16 * i + 16 ≡ 16 * (i + 1) = omega arith in
    let twice : 2 * (16 * i) ≡ 32 * i = omega arith in
    let both : chunk (32 * i) 16 line ++ chunk (32 * i + 16) 16 line ≡ take 32 (drop (32 * i) line) =
    rw (← (drop-drop 16 (32 * i) line)) (sym (take-add 16 16 (drop (32 * i) line))) in
    let part : written ≡ take 16 (drop (16 * i) (octets_of_digits line)) =
    is_written ∙ ap octets_of_digits both ∙ rw (octets-drop (16 * i) line, twice) (sym (octets-take 16 (drop (32 * i) line))) in
    take_more_put_chunk (16 * i) octets written (16 * (i + 1)) (omega arith) (omega arith)
    ∙ rw (so_far, part, ← next) (sym (take-add (16 * i) 16 (octets_of_digits line)))
