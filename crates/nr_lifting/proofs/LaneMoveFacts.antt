-- A lane that is read from a list of bits, and one that is put into one.
use Rattle.nr_lifting.proofs.Names.{Bool, IsClear, List, ap, arith, bit, bit-place, bit_at, bits_of_words, cases_lt, false, get_or}
use Rattle.nr_lifting.proofs.Names.{if◌then◌else◌, length, min, nat_tests, place, place_of, refl, true, ℕ, ◌*◌, ◌+◌}
use Rattle.nr_lifting.proofs.Names.{◌-◌, ◌<◌, ◌==◌, ◌∙◌, ◌≡◌, ◌≤◌}

-- ---- reading

-- the digit of a bit
abbrev pub digit : Bool → ℕ
digit b = if b then 1 else 0

pub digit-true : (b : Bool) → (digit b == 1) ≡ b
digit-true true = refl
digit-true false = refl

-- words that have the digits of bits are seen as those bits
pub view-digit : (z : ℕ) (ws : List ℕ) (t : ℕ) (b : Bool) → IsClear ws z → place ws t ≡ digit b
    → bit (bits_of_words z ws) t ≡ b
view-digit z ws t b clear e = bit-place z ws t clear ∙ ap (λ n. n == 1) e ∙ digit-true b

-- ---- writing

-- the bits of the first i words of a lane of z bits begin at bit `at`, and no other bit has changed
pub record IsStored (z i at : ℕ) (lane new old : List Bool) : Type 0 where
  pub within : (t : ℕ) → t < 64 * i → t < z → bit new (at + t) ≡ bit lane t
  pub before : (t : ℕ) → t < at → bit new t ≡ bit old t
  pub after : (t : ℕ) → at + z ≤ t → bit new t ≡ bit old t
  pub long : length new ≡ length old

-- one more word is put
pub stored_more : (z i at count : ℕ) (ws : List ℕ) (new old next : List Bool)
    → IsStored z i at (bits_of_words z ws) new old → IsClear ws z → count ≡ min (z - 64 * i) 64 → 64 * i < z
    → ((j : ℕ) → j < count → bit next (at + 64 * i + j) ≡ (bit_at (get_or ws i 0) j == 1))
    → ((t : ℕ) → t < at + 64 * i → bit next t ≡ bit new t)
    → ((t : ℕ) → at + 64 * i + count ≤ t → bit next t ≡ bit new t)
    → length next ≡ length new
    → IsStored z (i + 1) at (bits_of_words z ws) next old
stored_more z i at count ws new old next h clear e some within before after long =
    grind (arith, nat_tests, cases_lt, bit-place, place_of)
