-- Bits of words that change places in steps, and eight columns that become octets of their rows.
use Rattle.nr_interleave.proofs.Common.{◌≡◌, ◌≤◌, ◌==◌, ◌∷◌, ◌∙◌, nat_tests, bit_at_shl_low, bit_at_mod}
use Rattle.nr_interleave.proofs.Common.{◌+◌, ◌-◌, ◌*◌, ◌/◌, ◌%◌, ◌^◌, ◌<◌, [], length, bit_at, cases_lt}
use Rattle.nr_interleave.proofs.Common.{slice_index_or as get_or, get_or-set_same, get_or-set_other, bit_at_shr, bit_at_shl_high}
use Rattle.nr_interleave.specs.inside.Octets.{in_two_steps, apart_from, columns_apart, columns_together, exchanged_from, Gets}
use Rattle.nr_interleave.specs.inside.Octets.{MakesColumns, MakesOctets, neither, octets_back, octets_turned, only_in, moved_up}
use Rattle.nr_interleave.proofs.Common.{rules, ℕ, inl, inr, Bool, false, List, set, refl, sym, ap, arith, bit_or}
use Rattle.nr_interleave.specs.inside.Octets.{together_from}
use Rattle.nr_interleave.specs.declared.octets.TheConstants.{OF_2, OF_4, OF_6, OF_8}
use Rattle.std.{proofs.Common.◌&&◌, proofs.Common.if◌then◌else◌, proofs.Common.true, specs.Int.RustNames.bit_and}
use Rattle.std.{specs.List.flat_map, specs.List.list_any, proofs.lemmas.List.Folds.list_any-append, proofs.Math.Bool.or-false}
use Rattle.std.proofs.lemmas.Bool.{agree_below, agree_below_at, cases_eq, eqb-true}
use Rattle.nr_bitvec.proofs.BitFacts.{bit_at_mod_above, and-one, or-one}

-- ---- masks, tested

-- a list has one number only
abbrev is_only : ℕ → List ℕ → Bool
is_only n [] = false
is_only n (x ∷ []) = x == n
is_only n (x ∷ y ∷ zs) = false

only-is : (n : ℕ) (xs : List ℕ) → is_only n xs ≡ true → xs ≡ n ∷ []
only-is n [] e = cc e
only-is n (x ∷ []) e = ap (λ k. k ∷ []) (eqb-true x n e)
only-is n (x ∷ y ∷ zs) e = cc e

-- a test of all places of a matrix
abbrev tested : ℕ → ℕ → (ℕ → ℕ → Bool) → Bool
tested rows columns test = agree_below (λ r. agree_below (test r) (λ _. true) columns) (λ _. true) rows

tested-at : (rows columns : ℕ) (test : ℕ → ℕ → Bool) → tested rows columns test ≡ true → (r c : ℕ) → r < rows
    → c < columns → test r c ≡ true
tested-at rows columns test all r c row column =
    agree_below_at (test r) (λ _. true) columns c
    (agree_below_at (λ r. agree_below (test r) (λ _. true) columns) (λ _. true) rows r all row) column

octets-from : (qm : ℕ) (masks : List ℕ)
    → tested qm 8 (λ r c. is_only (qm * c + r) (octets_turned (columns_apart qm masks) (8 * r + c))) ≡ true
    → MakesOctets qm masks
octets-from qm masks all r c row column =
    only-is (qm * c + r) (octets_turned (columns_apart qm masks) (8 * r + c))
    (tested-at qm 8 (λ r c. is_only (qm * c + r) (octets_turned (columns_apart qm masks) (8 * r + c))) all r c row column)

pub of-2 : MakesOctets 2 OF_2
of-2 = octets-from 2 OF_2 refl

pub of-4 : MakesOctets 4 OF_4
of-4 = octets-from 4 OF_4 refl

pub of-6 : MakesOctets 6 OF_6
of-6 = octets-from 6 OF_6 refl

pub of-8 : MakesOctets 8 OF_8
of-8 = octets-from 8 OF_8 refl

columns-from : (qm : ℕ) (masks : List ℕ)
    → tested 8 qm (λ c r. is_only (8 * r + c) (columns_together qm masks octets_back (c * qm + r))) ≡ true
    → MakesColumns qm masks
columns-from qm masks all c r column row =
    only-is (8 * r + c) (columns_together qm masks octets_back (c * qm + r))
    (tested-at 8 qm (λ c r. is_only (8 * r + c) (columns_together qm masks octets_back (c * qm + r))) all c r column row)

pub back-2 : MakesColumns 2 OF_2
back-2 = columns-from 2 OF_2 refl

pub back-4 : MakesColumns 4 OF_4
back-4 = columns-from 4 OF_4 refl

pub back-6 : MakesColumns 6 OF_6
back-6 = columns-from 6 OF_6 refl

pub back-8 : MakesColumns 8 OF_8
back-8 = columns-from 8 OF_8 refl

-- ---- what comes to a place

marked : (x k : ℕ) (there mark : Bool) → (mark ≡ true → there ≡ (bit_at x k == 1))
    → (there && mark) ≡ list_any (λ k. bit_at x k == 1) (if mark then k ∷ [] else [])
marked x k true true same = same refl ∙ sym (or-false (bit_at x k == 1))
marked x k false true same = same refl ∙ sym (or-false (bit_at x k == 1))
marked x k true false same = refl
marked x k false false same = refl

in-mask : (x n mask p k : ℕ) → (bit_at mask p ≡ 1 → bit_at n p ≡ bit_at x k)
    → (bit_at (bit_and n mask) p == 1) ≡ list_any (λ k. bit_at x k == 1) (only_in mask p k)
in-mask x n mask p k same = search (rules, and-one, marked, eqb-true)

-- a raised mask has only places of the word, and none below `by`
pub record IsRaised (by p : ℕ) : Type 0 where
  pub above : by ≤ p
  pub inside : p < 64

is-raised : (mask by p : ℕ) → bit_at (moved_up mask by) p ≡ 1 → IsRaised by p
is-raised mask by p mark = elim (cases_lt p 64) [
  | inr past ↦ let none : bit_at (mask * 2 ^ by % 2 ^ 64) p ≡ 0 = bit_at_mod_above (mask * 2 ^ by) 64 p past in
      absurd (omega (arith, none, mark))
  | inl inside ↦ elim (cases_lt p by) [
    | inr above ↦ record { above = above; inside = inside }
    | inl below ↦
        let none : bit_at (mask * 2 ^ by % 2 ^ 64) p ≡ 0 =
        bit_at_mod (mask * 2 ^ by) 64 p inside ∙ bit_at_shl_low mask by p below in
        absurd (omega (arith, none, mark))
  ]
]

moved-up : (x mask lane by p : ℕ) → by ≤ lane
    → (bit_at (bit_and (x * 2 ^ by % 2 ^ 64) (moved_up mask lane)) p == 1)
    ≡ list_any (λ k. bit_at x k == 1) (only_in (moved_up mask lane) p (p - by))
moved-up x mask lane by p few =
    in-mask x (x * 2 ^ by % 2 ^ 64) (moved_up mask lane) p (p - by)
    (λ mark.
    let there = is-raised mask lane p mark in
    bit_at_mod (x * 2 ^ by) 64 p there.inside ∙ bit_at_shl_high x by p (omega (arith, few, there.above)))

pub apart-gets : (x mask lane by : ℕ) → by ≤ lane
    → Gets (apart_from mask lane by) x (bit_or (bit_and x mask) (bit_and (x * 2 ^ by % 2 ^ 64) (mask * 2 ^ lane % 2 ^ 64)))
apart-gets x mask lane by few = grind (arith, nat_tests, or-one, in-mask, moved-up, list_any-append)

pub together-gets : (x mask lane by : ℕ)
    → Gets (together_from mask lane by) x (bit_or (bit_and x mask) (bit_and (x / 2 ^ by) (mask * 2 ^ (lane - by) % 2 ^ 64)))
together-gets x mask lane by = grind (arith, nat_tests, or-one, in-mask, bit_at_shr, list_any-append)

pub exchanged-gets : (x mask by : ℕ) → Gets (exchanged_from mask by) x
    (bit_or (bit_or (bit_and x (neither mask (moved_up mask by))) (bit_and (x * 2 ^ by % 2 ^ 64) (moved_up mask by)))
    (bit_and (x / 2 ^ by) mask))
exchanged-gets x mask by = grind (arith, nat_tests, or-one, in-mask, moved-up, bit_at_shr, list_any-append)

through : (earlier : ℕ → List ℕ) (x w : ℕ) → Gets earlier x w → (ks : List ℕ)
    → list_any (λ k. bit_at w k == 1) ks ≡ list_any (λ k. bit_at x k == 1) (flat_map earlier ks)
through earlier x w gets [] = refl
through earlier x w gets (k ∷ ks) =
    cc (gets.bits k, through earlier x w gets ks, list_any-append (λ k. bit_at x k == 1) (earlier k) (flat_map earlier ks))

pub then-gets : {later earlier : ℕ → List ℕ} {x w v : ℕ} → Gets earlier x w → Gets later w v
    → Gets (in_two_steps later earlier) x v
then-gets {later} {earlier} {x} {w} first second = record { bits = λ p. second.bits p ∙ through earlier x w first (later p) }

-- a place to which one bit comes
pub only-comes : {come : ℕ → List ℕ} {x w : ℕ} (p k : ℕ) → Gets come x w → come p ≡ k ∷ []
    → (bit_at w p == 1) ≡ (bit_at x k == 1)
only-comes {come} {x} p k gets only = gets.bits p ∙ ap (list_any (λ k. bit_at x k == 1)) only ∙ or-false (bit_at x k == 1)

-- ---- lists of words

-- what is true of each word so far is true of one more
pub each-more : (P : ℕ → ℕ → Type 0) (xs : List ℕ) (i v : ℕ) → i < length xs → P i v
    → ((k : ℕ) → k < i → P k (get_or xs k 0))
    → (k : ℕ) → k < i + 1 → P k (get_or (set xs i v) k 0)
each-more P xs i v inside here before k below = grind (arith, cases_eq, get_or-set_same, get_or-set_other)
