-- How a field is stripped from its end, and its digits read one by one.
use Rattle.nr_streams.proofs.Common.{◌≡◌, ℕ, zero, suc, ◌+◌, ◌-◌, ◌<◌, ◌≤◌, List, [], ◌∷◌, ◌++◌}
use Rattle.nr_streams.proofs.Common.{length, take, Bool, true, false, ◌&&◌, refl, ap, sym, ◌∙◌, arith, digits_value}
use Rattle.nr_streams.{proofs.Common.length-take-le, proofs.Common.to_last_mark, specs.Fields.is_blank}
use Rattle.std.{proofs.Common.◌*◌, proofs.Common.◌^◌, proofs.Common.get_or, specs.Char.is_ascii_digit, specs.List.list_all}
use Rattle.std.{specs.Int.IsInRange, specs.Str.all_ascii_digits, proofs.Math.Bool.and-true, proofs.lemmas.Bool.and_right}
use Rattle.std.proofs.lemmas.{Int.Digits.digits_value_more, List.Folds.list_all-append, Str.digit_value_digit}
use Rattle.std.proofs.lemmas.Str.Parse.{digits_value_short, numerals_by_value, tells_all_ascii_digits}

-- one more octet after a text, all blank or not
blank-behind : (b : ℕ) (xs : List ℕ) (blank : Bool) → is_blank b ≡ blank
    → list_all is_blank (xs ++ b ∷ []) ≡ (list_all is_blank xs && blank)
blank-behind b xs blank h = list_all-append is_blank xs (b ∷ [])
    ∙ ap (λ x. list_all is_blank xs && x) (and-true (is_blank b) ∙ h)

-- a blank at the end of a field is left out
pub last-blank : (xs : List ℕ) (b : ℕ) → is_blank b ≡ true → to_last_mark (xs ++ b ∷ []) ≡ to_last_mark xs
last-blank [] b h = rw h refl
last-blank (x ∷ xs) b h = grind (arith, blank-behind, and-true, last-blank xs b h)

-- another octet at the end is kept, with all before it
pub last-mark : (xs : List ℕ) (b : ℕ) → is_blank b ≡ false → to_last_mark (xs ++ b ∷ []) ≡ xs ++ b ∷ []
last-mark [] b h = rw h refl
last-mark (x ∷ xs) b h = grind (arith, blank-behind, and_right, last-mark xs b h)

-- the test of each octet is the recursion of std
digits-told : (ds : List ℕ) → list_all is_ascii_digit ds ≡ all_ascii_digits ds
digits-told [] = refl
digits-told (d ∷ ds) = ap (λ b. is_ascii_digit d && b) (digits-told ds)

-- each of the digits is in range
digit-in : (ds : List ℕ) (i : ℕ) → all_ascii_digits ds ≡ true → i < length ds → IsInRange 48 57 (get_or ds i 0)
digit-in [] i h lt = absurd (omega arith)
digit-in (d ∷ ds) zero h lt = (tells_all_ascii_digits.parts d ds h).0
digit-in (d ∷ ds) (suc i) h lt = digit-in ds i (tells_all_ascii_digits.parts d ds h).1 (omega arith)

front-digits : (ds : List ℕ) (i : ℕ) → all_ascii_digits ds ≡ true → all_ascii_digits (take i ds) ≡ true
front-digits ds zero h = refl
front-digits [] (suc i) h = refl
front-digits (d ∷ ds) (suc i) h =
    let k = tells_all_ascii_digits.parts d ds h in
    tells_all_ascii_digits.more d (take i ds) k.0 (front-digits ds i k.1)

-- reading one more of at most twenty digits: the value so far has at most nineteen
pub record Digit (ds : List ℕ) (i value : ℕ) : Type 0 where
  pub small : value < 10000000000000000000
  pub low : 48 ≤ get_or ds i 0
  pub high : get_or ds i 0 ≤ 57
  pub more : digits_value 10 (take (i + 1) ds) ≡ value * 10 + (get_or ds i 0 - 48)

pub one-digit : (ds : List ℕ) (i value : ℕ) → list_all is_ascii_digit ds ≡ true → length ds ≤ 20 → i < length ds
    → value ≡ digits_value 10 (take i ds) → Digit ds i value
one-digit ds i value h short lt v =
    let all : all_ascii_digits ds ≡ true = sym (digits-told ds) ∙ h in
    let inside : IsInRange 48 57 (get_or ds i 0) = digit-in ds i all lt in
    let size : length (take i ds) ≤ 19 = omega (arith, length-take-le i ds (omega arith)) in
    let low : digits_value 10 (take i ds) < 10 ^ 19 =
    digits_value_short (numerals_by_value _ tells_all_ascii_digits) (take i ds) 19 (front-digits ds i all) size in
    record {
      small = omega arith;
      low = inside.0;
      high = inside.1;
      more = digits_value_more 10 ds i lt ∙ omega (arith, digit_value_digit (get_or ds i 0) inside);
    }

-- the value of at most so many digits
pub numeral-below : (most : ℕ) (ds : List ℕ) → list_all is_ascii_digit ds ≡ true → length ds ≤ most
    → digits_value 10 ds < 10 ^ most
numeral-below most ds h short =
    digits_value_short (numerals_by_value _ tells_all_ascii_digits) ds most (sym (digits-told ds) ∙ h) short
