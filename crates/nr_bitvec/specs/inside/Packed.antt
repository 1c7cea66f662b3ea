-- Definitions that only the proofs need, beside those of Packed.antt.
use Rattle.std.specs.Prelude.{◌≡◌, ℕ, ◌+◌, ◌-◌, ◌*◌, ◌/◌, ◌%◌, ◌^◌, ◌<◌, ◌≤◌, nat_lt, min}
use Rattle.std.specs.Prelude.{max, bit_and, List, length, if◌then◌else◌, slice_index_or}
use Rattle.std.specs.Int.{bit_at}
use Rattle.nr_bitvec.specs.Packed.{IsClear, place}

-- place t of a number that begins at place `at`
abbrev pub moved_place : ℕ → ℕ → ℕ → ℕ
moved_place at n t = if nat_lt t at then 0 else bit_at n (t - at)

-- place t of octets, the most significant bit of each first, 0 or 1
abbrev pub octet_place : List ℕ → ℕ → ℕ
octet_place os t = bit_at (slice_index_or os (t / 8) 0) (7 - t % 8)

-- place t of words that are followed by the places of others, from place `at` on
abbrev pub followed : List ℕ → List ℕ → ℕ → ℕ → ℕ
followed ws vs at t = if nat_lt t (64 * length ws) then place ws t else place vs (at + (t - 64 * length ws))

-- 64 bits are added modulo two from place `at` on
abbrev pub Adds : ℕ → ℕ → List ℕ → List ℕ → Type 0
Adds at bits old new = (t : ℕ) → place new t ≡ (place old t + moved_place at bits t) % 2

-- the places of word w that are set in the mask m, and those `by` above them, are swapped in r
abbrev pub Swaps : ℕ → ℕ → ℕ → ℕ → Type 0
Swaps by m w r = (j : ℕ) → j < 64 → bit_at r j ≡ max (min (bit_at w (by + j)) (bit_at m j)) (moved_place by (bit_and w m) j)

-- two lists of words have the same places
abbrev pub SamePlaces : List ℕ → List ℕ → Type 0
SamePlaces a b = (t : ℕ) → place a t ≡ place b t

-- The words of a list of n bits, at most 2 ^ 24. They are as few as n places need, and no place is set past the end. So
-- equal lists have equal words.
pub record IsPacked (n : ℕ) (ws : List ℕ) : Type 0 where
  pub short : n ≤ 2 ^ 24
  pub above : 64 * length ws < n + 64
  pub below : n ≤ 64 * length ws
  pub clear : IsClear ws n

-- `count` bits, those of `bits`, follow the first n places, and none is set after them
pub record Grows (n count bits : ℕ) (ws new : List ℕ) : Type 0 where
  pub above : 64 * length new < n + count + 64
  pub below : n + count ≤ 64 * length new
  pub before : (t : ℕ) → t < n → place new t ≡ place ws t
  pub within : (t : ℕ) → n ≤ t → place new t ≡ bit_at bits (t - n)

-- what is added at place `at` to put the `count` lowest bits of n there
pub record Changes (ws : List ℕ) (at count n change : ℕ) : Type 0 where
  pub low : (j : ℕ) → j < count → bit_at change j ≡ (place ws (at + j) + bit_at n j) % 2
  pub high : (j : ℕ) → count ≤ j → bit_at change j ≡ 0

-- the first i words of vs begin at place n, and no place is set after them
pub record Joins (n : ℕ) (old vs new : List ℕ) (i : ℕ) : Type 0 where
  pub before : (t : ℕ) → t < n → place new t ≡ place old t
  pub within : (t : ℕ) → t < 64 * i → place new (n + t) ≡ place vs t
  pub after : (t : ℕ) → 64 * i ≤ t → place new (n + t) ≡ 0
  pub long : length new ≡ length old

-- the places that are set in the first i words of vs are set too
pub record Merges (old vs new : List ℕ) (i : ℕ) : Type 0 where
  pub within : (t : ℕ) → t < 64 * i → place new t ≡ max (place old t) (place vs t)
  pub after : (t : ℕ) → 64 * i ≤ t → place new t ≡ place old t
  pub long : length new ≡ length old

-- i words, with the places that G gives
pub record Loads (G : ℕ → ℕ) (ws : List ℕ) (i : ℕ) : Type 0 where
  pub long : length ws ≡ i
  pub places : (t : ℕ) → t < 64 * i → place ws t ≡ G t

-- the octets of the first i words
pub record HoldsOctets (ws os : List ℕ) (i : ℕ) : Type 0 where
  pub long : length os ≡ 8 * i
  pub places : (t : ℕ) → t < 64 * i → octet_place os t ≡ place ws t
  pub small : (k : ℕ) → slice_index_or os k 0 < 2 ^ 8
