-- If one word alone begins with some bits and meets every row, it is found among all words.
use Rattle.std.proofs.Common.{◌≡◌, ℕ, zero, suc, ◌-◌, ◌<◌, Bool, true, false, inl, inr}
use Rattle.std.proofs.Common.{List, [], ◌∷◌, ◌++◌, length, take, drop, Option, Some, unwrap_or}
use Rattle.std.proofs.Common.{refl, sym, ap, subst, ◌∙◌, arith}
use Rattle.std.specs.Prelude.{slice_index_or}
use Rattle.std.specs.List.{All, Contains, find}
use Rattle.std.proofs.lemmas.Bool.{both_ways, cases_Bool}
use Rattle.std.proofs.lemmas.List.{take-append-drop, length-drop, length-append}
use Rattle.std.proofs.lemmas.List.Elements.{All-head, All-tail}
use Rattle.nr_bitvec.specs.Bit.{bit}
use Rattle.nr_bitvec.specs.BitList.{bit_lists}
use Rattle.nr_bitvec.proofs.BitListFacts.{HasLength, bit_lists-has, bit_lists-long}
use Rattle.nr_ldpcenc.specs.Rows.{Checks, Meets, meets_all}
use Rattle.nr_ldpcenc.specs.Codeword.{IsWordOf, word_of}

-- what the first element that passes a test is
record IsFound {X : Type 0} (p : X → Bool) (P : X → Type 0) (o : Option X) : Type 0 where
  first : X
  is : o ≡ Some first
  passes : p first ≡ true
  holds : P first

module _ {X : Type 0} (p : X → Bool) (P : X → Type 0) where
  past : (y x : X) (ys : List X) (k : ℕ) → p y ≡ false → p x ≡ true → k < length (y ∷ ys)
      → slice_index_or (y ∷ ys) k x ≡ x → Contains ys x
  past y x ys zero fails passes lt e = absurd (both_ways (p y) fails (ap p e ∙ passes))
  past y x ys (suc k) fails passes lt e = (k, omega (arith, lt), e)

  -- for a list whose elements all have a property, one of which passes the test
  found : (xs : List X) (x : X) → All P xs → Contains xs x → p x ≡ true → IsFound p P (find p xs)
  found [] x all has passes = absurd (omega (arith, has.1))
  found (y ∷ ys) x all has passes = elim (cases_Bool (p y)) [
    | inl pass ↦ record { first = y; is = rw (pass) refl; passes = pass; holds = All-head P y ys all }
    | inr fail ↦
        let is = found ys x (All-tail P y ys all) (past y x ys has.0 fail passes has.1 has.2) passes in
        record { first = is.first; is = rw (fail) is.is; passes = is.passes; holds = is.holds }
  ]

take-self : (xs ys : List Bool) → take (length xs) (xs ++ ys) ≡ xs
take-self [] ys = refl
take-self (x ∷ xs) ys = ap (λ l. x ∷ l) (take-self xs ys)

-- if one word alone begins with some bits and meets every row, it is the word of these bits
pub word_of-only : (c : Checks) (info word : List Bool) → IsWordOf c info word
    → ((other : List Bool) → IsWordOf c info other → other ≡ word) → word_of c info ≡ word
unfolding word_of
word_of-only c info word is only =
    let test : List Bool → Bool = λ rest. meets_all c (bit (info ++ rest)) in
    let rest : List Bool = drop (length info) word in
    let whole : info ++ rest ≡ word = ap (λ l. l ++ rest) (sym is.begins) ∙ take-append-drop (length info) word in
    let left : length rest ≡ c.size - length info = length-drop (length info) word ∙ ap (λ n. n - length info) is.long in
    let passes : test rest ≡ true =
    subst (λ l. Meets c (bit l)) (sym whole) is.meets in
    let n = c.size - length info in
    let has : Contains (bit_lists n) rest = subst (λ m. Contains (bit_lists m) rest) left (bit_lists-has rest) in
    let is_found = found test (HasLength n) (bit_lists n) rest (bit_lists-long n) has passes in
    ap (λ o. info ++ unwrap_or o []) is_found.is
    ∙ only (info ++ is_found.first) (record {
      long = omega
          (arith, length-append info is_found.first, is_found.holds, length-append info rest, ap length whole, is.long);
      begins = take-self info is_found.first;
      meets = is_found.passes;
    })
