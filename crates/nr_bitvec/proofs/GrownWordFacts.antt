-- Bits that are put after the places of packed words.
use Rattle.nr_bitvec.proofs.Common.{ℕ, ◌^◌, ◌<◌, List, [], length, get_or, set, sym, arith, bit_at, bit_xor, place, Grows}
use Rattle.nr_bitvec.proofs.Common.{◌+◌, ◌-◌, ◌*◌, ◌/◌, ◌%◌, ◌++◌, ◌∙◌, cases_lt, bit_at-lt, IsPacked}
use Rattle.nr_bitvec.proofs.Common.{common_steps, nat_tests, ◌≡◌, ◌≤◌, ◌∷◌, length-set, length_push, moved_place}
use Rattle.nr_bitvec.proofs.AddedBitFacts.{flip-first, kept, moved_below, moved_from}
use Rattle.nr_bitvec.proofs.{BitFacts.bit_at_shr, BitFacts.place_past, PlaceFacts.place-push_old, PlaceFacts.place-push_new}

-- One more word after the others: the bits that it has, from place n on.
pushed-within : (n bits by m : ℕ) (mid new : List ℕ) → new ≡ mid ++ m ∷ [] → 64 * length mid ≡ n + by
    → ((s : ℕ) → bit_at m s ≡ bit_at bits (by + s))
    → ((j : ℕ) → by + 64 ≤ j → bit_at bits j ≡ 0)
    → ((t : ℕ) → n ≤ t → t < 64 * length mid → place mid t ≡ bit_at bits (t - n)) → (t : ℕ) → n ≤ t
    → place new t ≡ bit_at bits (t - n)
pushed-within n bits by m mid new e long up high within t h =
    grind (arith, nat_tests, cases_lt, place-push_old, place-push_new, place_past, length_push)

-- The last word is written.
module _ (n count bits : ℕ) (ws : List ℕ) (packed : IsPacked n ws) (few : count ≤ 64)
    (high : (j : ℕ) → count ≤ j → bit_at bits j ≡ 0) (a : ℕ) (read : a ≡ get_or ws (n / 64) 0) (fits : bits < 2 ^ 64)
    (some : 0 < n % 64) where
  abbrev mid : List ℕ
  mid = set ws (n / 64) (bit_xor a (bits * 2 ^ (n % 64) % 2 ^ 64))

  long : length mid ≡ n / 64 + 1
  long = length-set ws (n / 64) (bit_xor a (bits * 2 ^ (n % 64) % 2 ^ 64)) ∙ omega (arith, some, packed.above, packed.below)

  flips : (t : ℕ) → t < 64 * (n / 64) + 64 → place mid t ≡ (place ws t + moved_place n bits t) % 2
  flips t h = flip-first ws n bits (n / 64) (n % 64) a t (omega arith) (omega arith) (omega (arith, some, packed.below)) read fits
      (λ above. absurd (omega (arith, h, above)))

  mid-before : (t : ℕ) → t < n → place mid t ≡ place ws t
  mid-before t h = flips t (omega (arith, h)) ∙ sym (kept ws n bits t (moved_below n bits t h))

  mid-within : (t : ℕ) → n ≤ t → t < 64 * length mid → place mid t ≡ bit_at bits (t - n)
  mid-within t h b =
      omega (arith, flips t (omega (arith, b, long)), packed.clear t h, moved_from n bits t h, bit_at-lt bits (t - n))

  pub grows-last : n % 64 + count ≤ 64 → Grows n count bits ws mid
  grows-last inside = grind (arith, nat_tests, long, mid-before, cases_lt, mid-within, place_past)

  pub grows-both : (new : List ℕ) → new ≡ mid ++ bits / 2 ^ (64 - n % 64) ∷ [] → 64 < n % 64 + count
      → Grows n count bits ws new
  grows-both new e past =
      grind (arith, common_steps, nat_tests, length_push, long, place-push_old, mid-before, pushed-within, bit_at_shr, mid-within)
