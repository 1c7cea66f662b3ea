-- Ranges of places that are marked in turn, each by words.
use Rattle.nr_files.proofs.Common.{◌≡◌, ℕ, ◌+◌, ◌-◌, ◌<◌, ◌≤◌, ◌==◌, ◌||◌, inl, inr, nat_lt, Bool}
use Rattle.nr_files.proofs.Common.{true, false, List, refl, sym, ap, ◌∙◌, arith, ◌&&◌, nat_le, nat_tests, bit}
use Rattle.std.{specs.Int.bit_at, proofs.lemmas.Bool.cases_lt, proofs.lemmas.Bool.or_right, proofs.lemmas.Nat.Bits.bit_at_ones}

-- the place is from one on and before another
abbrev pub between : ℕ → ℕ → ℕ → Bool
between from end m = nat_le from m && nat_lt m end

-- what one truth value adds to another
pub or-none : (a b : Bool) → b ≡ false → a ≡ (a || b)
or-none true b none = refl
or-none false b none = sym none

-- no place is marked so far
pub marked-none : (old : List Bool) (from end m : ℕ) → end ≤ from → bit old m ≡ (bit old m || between from end m)
marked-none old from end m none = grind (arith, nat_tests, or-none)

-- one more word of places
pub marked-more : (old mid new : List Bool) (from at next wide : ℕ) → from ≤ at → next ≡ at + wide → wide ≤ 64
    → ((t : ℕ) → t < wide → bit new (at + t) ≡ (bit_at 18446744073709551615 t == 1))
    → ((t : ℕ) → t < at → bit new t ≡ bit mid t) → ((t : ℕ) → at + wide ≤ t → bit new t ≡ bit mid t)
    → ((m : ℕ) → bit mid m ≡ (bit old m || between from at m)) → (m : ℕ)
    → bit new m ≡ (bit old m || between from next m)
marked-more old mid new from at next wide low there few within before after so_far m = elim (cases_lt m at) [
  | inl first ↦ grind (arith, nat_tests, before, so_far m)
  | inr past ↦ elim (cases_lt m (at + wide)) [
    | inl here ↦
        let place : at + (m - at) ≡ m = omega arith in
        let marked : bit new m ≡ true =
        rw place at (within (m - at) (omega arith) ∙ ap (λ k. k == 1) (bit_at_ones 64 (m - at) (omega arith))) in
        grind (arith, nat_tests, or_right)
    | inr behind ↦ grind (arith, nat_tests, after, so_far m)
  ]
]
