-- Words that are read across the border of two words, and words that are written into a list one by one.
use Rattle.nr_lifting.proofs.Names.{List, arith, bit_at, bit_or, cases_eq, get_or, length, length-set, place, place-set_other}
use Rattle.nr_lifting.proofs.Names.{place-set_same, set, ℕ, ◌%◌, ◌*◌, ◌+◌, ◌-◌, ◌/◌, ◌<◌, ◌^◌}
use Rattle.nr_lifting.proofs.{Names.◌≡◌, Names.◌≤◌, DoubledWordFacts.piece_bit}

-- `n << 1 << (63 - r)`: a shift by 64 - r, even if r is 0
abbrev pub up_by : ℕ → ℕ → ℕ
up_by n r = n * 2 ^ 1 % 2 ^ 64 * 2 ^ (63 - r) % 2 ^ 64

-- a window of two words that were read, bit by bit
pub window_read : (ws : List ℕ) (w r a b j : ℕ) → a ≡ get_or ws w 0 → b ≡ get_or ws (w + 1) 0 → get_or ws w 0 < 2 ^ 64
    → r < 64 → j < 64
    → bit_at (bit_or (a / 2 ^ r) (up_by b r)) j ≡ place ws (64 * w + r + j)
window_read ws w r a b j is_low is_up fits h short = grind (arith, piece_bit)

-- the k words from word `at` on have the places that G gives them, and all other places are unchanged
pub record IsPut (at k : ℕ) (G : ℕ → ℕ) (new old : List ℕ) : Type 0 where
  pub within : (t : ℕ) → t < 64 * k → place new (64 * at + t) ≡ G t
  pub before : (t : ℕ) → t < 64 * at → place new t ≡ place old t
  pub after : (t : ℕ) → 64 * (at + k) ≤ t → place new t ≡ place old t
  pub long : length new ≡ length old

-- one more word is put
pub put_more : (at k word : ℕ) (G : ℕ → ℕ) (next new old : List ℕ) → IsPut at k G new old → at + k < length new
    → next ≡ set new (at + k) word
    → ((j : ℕ) → j < 64 → bit_at word j ≡ G (64 * k + j)) → IsPut at (k + 1) G next old
put_more at k word G next new old h inside is low = grind (arith, cases_eq, place-set_same, place-set_other, length-set)
