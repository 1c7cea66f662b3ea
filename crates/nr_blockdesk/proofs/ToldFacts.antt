-- Two lists, of the positions told zero and of those told one: what words put into them, and how they are settled.
use Rattle.nr_blockdesk.proofs.Common.{nat_tests, ◌≡◌, ℕ, ◌+◌, ◌-◌, ◌^◌, ◌<◌, ◌≤◌, ◌==◌, ◌||◌}
use Rattle.nr_blockdesk.proofs.Common.{◌&&◌, Bool, true, false, inl, inr, nat_le, nat_lt, List, ap, sym, ◌∙◌, arith}
use Rattle.nr_blockdesk.proofs.Common.{bit, bit_at, cases_lt, w64, marks_with, word_says, and-false, le-leb, lt-ltb}
use Rattle.nr_blockdesk.specs.inside.PartMasks.{is_listed}
use Rattle.nr_harqbuf.proofs.MarkWordFacts.{on, on-and, on-or, on-not, IsPut}
use Rattle.std.specs.{Int.bit_not, Int.Bits.bit_and, Int.Bits.bit_or}

-- the positions of a word that are set in `now`
abbrev in_word : ℕ → ℕ → ℕ → ℕ → Bool
in_word at count now p = nat_le at p && nat_lt p (at + count) && on now (p - at)

pub word-marked : (old new : List Bool) (at count before now : ℕ) → count ≤ 64
    → ((j : ℕ) → j < 64 → on before j ≡ bit old (at + j)) → IsPut old new at count (bit_or before now) → (p : ℕ)
    → bit new p ≡ (bit old p || (nat_le at p && nat_lt p (at + count) && (bit_at now (p - at) == 1)))
word-marked old new at count before now few reads put p = elim (cases_lt p at) [
  | inl below ↦ grind (arith, nat_tests, put.before)
  | inr from ↦ elim (cases_lt p (at + count)) [
    | inr above ↦ grind (arith, nat_tests, put.after)
    | inl below ↦
        let here : at + (p - at) ≡ p = omega (arith, from) in
        let read : on before (p - at) ≡ bit old p =
        reads (p - at) (omega (arith, from, below, few)) ∙ ap (bit old) here in
        let inside : on (bit_or before now) (p - at) ≡ (bit old p || on now (p - at)) =
        on-or before now (p - at) ∙ ap (λ b. b || on now (p - at)) read in
        ap (bit new) (sym here) ∙ put.within (p - at) (omega (arith, from, below)) ∙ inside
        ∙ sym (ap (λ a. bit old p || (a && nat_lt p (at + count) && on now (p - at))) (le-leb at p from)
        ∙ ap (λ a. bit old p || (true && a && on now (p - at))) (lt-ltb p (at + count) below))
  ]
]

-- zeros that a word of marks and one of bits tell, and ones
zeros-told : (at count now bits p : ℕ) → count ≤ 64 → bits < 2 ^ 64
    → in_word at count (bit_and now (bit_not w64 bits)) p ≡ word_says at count now bits p false
zeros-told at count now bits p few fits = elim (cases_lt p at) [
  | inl below ↦ grind (arith, nat_tests)
  | inr from ↦ elim (cases_lt p (at + count)) [
    | inr above ↦ grind (arith, nat_tests, and-false)
    | inl below ↦
        let here : p - at < 64 = omega (arith, from, below, few) in
        grind (arith, nat_tests, on-and now (bit_not w64 bits) (p - at), on-not bits (p - at) fits here)
  ]
]

ones-told : (at count now bits p : ℕ) → in_word at count (bit_and now bits) p ≡ word_says at count now bits p true
ones-told at count now bits p = grind (arith, nat_tests, on-and now bits (p - at))

pub word-told : (zeros ones zeros' ones' : List Bool) (at count now bits : ℕ) → count ≤ 64 → bits < 2 ^ 64
    → ((p : ℕ) → bit zeros' p ≡ (bit zeros p || in_word at count (bit_and now (bit_not w64 bits)) p))
    → ((p : ℕ) → bit ones' p ≡ (bit ones p || in_word at count (bit_and now bits) p))
    → (p : ℕ) (v : Bool)
    → is_listed (marks_with zeros' ones') p v ≡ (is_listed (marks_with zeros ones) p v || word_says at count now bits p v)
word-told zeros ones zeros' ones' at count now bits few fits put-zeros put-ones p false =
    put-zeros p ∙ ap (λ b. bit zeros p || b) (zeros-told at count now bits p few fits)
word-told zeros ones zeros' ones' at count now bits few fits put-zeros put-ones p true =
    put-ones p ∙ ap (λ b. bit ones p || b) (ones-told at count now bits p)
