-- Loops that write the words of a lane one by one.
use Rattle.nr_lifting.proofs.Names.{IsClear, List, ap, arith, bit_and, bit_at, bit_at_and, bit_at_or, bit_at_xor, bit_or, cases_eq}
use Rattle.nr_lifting.proofs.Names.{cases_lt, get_or, get_or-set_other, inl, inr, length, length-set, max, min, nat_tests, place}
use Rattle.nr_lifting.proofs.Names.{place-set_other, place-set_same, place_past, set, ℕ, ◌%◌, ◌*◌, ◌+◌, ◌/◌}
use Rattle.nr_lifting.proofs.Names.{◌<◌, ◌∙◌, ◌≡◌, ◌≤◌, bit_xor, IsRotatedWord}
use Rattle.nr_lifting.{proofs.LaneBitFacts.word_bit, specs.inside.Lane.IsLane}

-- The first i words have the places that G gives them, below place z, and zeros past it; the other words are the old
-- ones.
pub record IsWritten (z i : ℕ) (G : ℕ → ℕ) (ws old : List ℕ) : Type 0 where
  pub done : (t : ℕ) → t < 64 * i → t < z → place ws t ≡ G t
  pub clear : (t : ℕ) → t < 64 * i → z ≤ t → place ws t ≡ 0
  pub kept : (w : ℕ) → i ≤ w → get_or ws w 0 ≡ get_or old w 0
  pub long : length ws ≡ length old

-- one more word is written
pub written_more : (z i : ℕ) (G : ℕ → ℕ) (next ws old : List ℕ) (word : ℕ)
    → IsWritten z i G ws old → i < length ws → next ≡ set ws i word
    → ((j : ℕ) → j < 64 → 64 * i + j < z → bit_at word j ≡ G (64 * i + j))
    → ((j : ℕ) → j < 64 → z ≤ 64 * i + j → bit_at word j ≡ 0)
    → IsWritten z (i + 1) G next old
written_more z i G next ws old word h within is low high =
    grind (arith, cases_eq, place-set_same, place-set_other, get_or-set_other, length-set)

-- if every word is written, no place past z is set
pub written_clear : (z i : ℕ) (G : ℕ → ℕ) (ws old : List ℕ) → IsWritten z i G ws old → length ws ≤ i
    → IsClear ws z
written_clear z i G ws old h all t past = grind (arith, nat_tests, cases_lt, place_past)

-- nor is any if all words before z are written, and the others had none
pub written_over : (z i : ℕ) (G : ℕ → ℕ) (ws old : List ℕ) → IsWritten z i G ws old → z ≤ 64 * i → IsClear old z
    → IsClear ws z
written_over z i G ws old h all none t past = elim (cases_lt t (64 * i)) [
  | inl before ↦ h.clear t before past
  | inr after ↦ ap (λ w. bit_at w (t % 64)) (h.kept (t / 64) (omega (arith, after))) ∙ none t past
]

-- and the words are a lane's
pub written_lane : (z i : ℕ) (G : ℕ → ℕ) (ws old : List ℕ) → IsWritten z i G ws old → length old ≤ i
    → 64 * length old < z + 64 → z ≤ 64 * length old → IsLane z (length ws) ws
written_lane z i G ws old h all above below = record {
  above = omega (arith, h.long, above);
  below = omega (arith, h.long, below);
  clear = written_clear z i G ws old h (omega (arith, h.long, all));
}

-- ---- one word of a sum, and of a count

-- A word of a lane, and the word of a rotated block that meets it. Below place z each has the places of its list, and
-- zeros past it.
module _ (z i p now rotated : ℕ) (ws src : List ℕ) (kept : now ≡ get_or ws i 0) (clear : IsClear ws z)
    (is : IsRotatedWord z src i p rotated) (none : (j : ℕ) → z ≤ 64 * i + j → bit_at rotated j ≡ 0) where
  pub summed_low : (j : ℕ) → j < 64 → 64 * i + j < z
      → bit_at (bit_xor now rotated) j ≡ (place ws (64 * i + j) + place src ((64 * i + j + p) % z)) % 2
  summed_low j short below = omega (arith, bit_at_xor now rotated j, word_bit i j now ws kept short, is j short below)

  pub summed_high : (j : ℕ) → j < 64 → z ≤ 64 * i + j → bit_at (bit_xor now rotated) j ≡ 0
  summed_high j short past =
      omega (arith, bit_at_xor now rotated j, word_bit i j now ws kept short, clear (64 * i + j) past, none j past)

  pub joined_low : (j : ℕ) → j < 64 → 64 * i + j < z
      → bit_at (bit_or now rotated) j ≡ max (place ws (64 * i + j)) (place src ((64 * i + j + p) % z))
  joined_low j short below = omega (arith, bit_at_or now rotated j, word_bit i j now ws kept short, is j short below)

  pub joined_high : (j : ℕ) → j < 64 → z ≤ 64 * i + j → bit_at (bit_or now rotated) j ≡ 0
  joined_high j short past =
      omega (arith, bit_at_or now rotated j, word_bit i j now ws kept short, clear (64 * i + j) past, none j past)

  -- with a second lane, whose word gains the places that both have
  module _ (word : ℕ) (more : List ℕ) (other : word ≡ get_or more i 0) (free : IsClear more z) where
    pub twice_low : (j : ℕ) → j < 64 → 64 * i + j < z
        → bit_at (bit_or word (bit_and now rotated)) j
        ≡ max (place more (64 * i + j)) (min (place ws (64 * i + j)) (place src ((64 * i + j + p) % z)))
    twice_low j short below = grind (arith, bit_at_or, bit_at_and, word_bit)

    pub twice_high : (j : ℕ) → j < 64 → z ≤ 64 * i + j → bit_at (bit_or word (bit_and now rotated)) j ≡ 0
    twice_high j short past =
        omega (
          arith,
          bit_at_or word (bit_and now rotated) j,
          bit_at_and now rotated j,
          word_bit i j word more other short,
          free (64 * i + j) past,
          none j past,
        )

-- ---- one word of a doubled lane

-- a word of a list gains the places of another word below place z
module _ (z k now : ℕ) (old : List ℕ) (more j : ℕ) (short : j < 64) (kept : now ≡ get_or old k 0) where
  pub gained_low : {gained : ℕ} → bit_at more j ≡ gained
      → bit_at (bit_or now more) j ≡ max (place old (64 * k + j)) gained
  gained_low is = omega (arith, bit_at_or now more j, word_bit k j now old kept short, is)
