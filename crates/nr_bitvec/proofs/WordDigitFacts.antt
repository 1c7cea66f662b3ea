-- One more digit at the end of a word.
use Rattle.nr_bitvec.proofs.Common.{◌≡◌, ℕ, ◌+◌, ◌-◌, ◌*◌, ◌%◌, ◌^◌, ◌<◌, ◌≤◌, max, ap}
use Rattle.nr_bitvec.proofs.Common.{◌∙◌, arith, bit_at, bit_or, bit_at-zero, bit_at_above, bit_at_or}
use Rattle.nr_bitvec.proofs.BitFacts.{bit_at_mod, bit_at_mod_above, bit_at_shl_high, bit_at_shl_low}

-- a word has no bit from bit n on
abbrev pub HasNone : ℕ → ℕ → Type 0
HasNone n word = (j : ℕ) → n ≤ j → bit_at word j ≡ 0

pub none-zero : HasNone 0 0
none-zero j _ = bit_at-zero j

module _ (word next digit n : ℕ) (small : digit ≤ 1) (inside : n < 64) (is : next ≡ bit_or word (digit * 2 ^ n % 2 ^ 64))
    (low : HasNone n word) where
  both : (j : ℕ) → bit_at next j ≡ max (bit_at word j) (bit_at (digit * 2 ^ n % 2 ^ 64) j)
  both j = ap (λ k. bit_at k j) is ∙ bit_at_or word (digit * 2 ^ n % 2 ^ 64) j

  pub digit-before : (j : ℕ) → j < n → bit_at next j ≡ bit_at word j
  digit-before j below = omega (arith, both j, bit_at_mod (digit * 2 ^ n) 64 j (omega arith), bit_at_shl_low digit n j below)

  pub digit-here : bit_at next n ≡ digit
  digit-here =
      let start : n - n ≡ 0 = omega arith in
      let here : bit_at (digit * 2 ^ n) n ≡ bit_at digit 0 = rw start at (bit_at_shl_high digit n n (omega arith)) in
      omega (arith, both n, bit_at_mod (digit * 2 ^ n) 64 n inside, here, small, low n (omega arith))

  pub digit-none : HasNone (n + 1) next
  digit-none j past = grind (
    arith,
    both j,
    bit_at_mod (digit * 2 ^ n) 64 j,
    bit_at_mod_above (digit * 2 ^ n) 64 j,
    bit_at_shl_high digit n j,
    bit_at_above digit 1 (j - n),
    small,
    low j,
  )
