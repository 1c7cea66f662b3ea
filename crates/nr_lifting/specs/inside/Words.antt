-- Definitions that only the proofs need.
use Rattle.std.specs.Prelude.{◌≡◌, ℕ, ◌+◌, ◌*◌, ◌%◌, ◌^◌, ◌<◌, ◌≤◌, max, List, [], length}
use Rattle.std.specs.Prelude.{slice_index_or}
use Rattle.nr_bitvec.specs.Packed.{place, IsClear}
use Rattle.nr_lifting.specs.declared.lanes.bit_sliced_counts.CountBlock.{CountBlock}

-- ---- doubled lanes: lanes of z bits twice in a row, so that every rotation of one is in one piece

-- the z places from place z on are those before it
abbrev pub IsDoubledLane : ℕ → List ℕ → Type 0
IsDoubledLane z doubled = (t : ℕ) → t < z → place doubled (z + t) ≡ place doubled t

-- each place of a doubled lane is set if it was or if its bit of a lane of z bits is
abbrev pub GainsDoubled : ℕ → List ℕ → List ℕ → List ℕ → Type 0
GainsDoubled z new old words = (t : ℕ) → t < 2 * z → place new t ≡ max (place old t) (place words (t % z))

-- ---- several blocks

-- the first z places are set, and no other
pub record IsMask (z : ℕ) (mask : List ℕ) : Type 0 where
  pub set : (t : ℕ) → t < z → place mask t ≡ 1
  pub clear : IsClear mask z

-- the block of z bits is another, rotated by p: its place t has the other's place (t + p) mod z
abbrev pub IsRotated : ℕ → List ℕ → List ℕ → ℕ → Type 0
IsRotated z new old p = (t : ℕ) → t < z → place new t ≡ place old ((t + p) % z)

-- Bounds of the number of planes of a block, of its counts, in W words, and of the number of blocks. The mask has the
-- places of a block.
pub record ArePlanes (P W z : ℕ) (cut : List ℕ) (blocks : List (CountBlock P W)) : Type 0 where
  pub thin : P ≤ 7
  pub some : 0 < z
  pub short : z ≤ 64 * W
  pub words : W ≤ 6
  pub few : length blocks < 2 ^ 16
  pub mask : IsMask z cut

-- Each block keeps a lane of z bits, in W words, twice in a row, in D words, and no place after them is set. The mask
-- has the places of a block.
pub record AreDoubled (W D z : ℕ) (cut : List ℕ) (blocks : List (List ℕ)) : Type 0 where
  pub some : 0 < z
  pub short : z ≤ 64 * W
  pub words : W ≤ 6
  pub twice : D ≡ 2 * W
  pub few : length blocks < 2 ^ 16
  pub doubled : (j : ℕ) → IsDoubledLane z (slice_index_or blocks j [])
  pub clear : (j : ℕ) → IsClear (slice_index_or blocks j []) (2 * z)
  pub mask : IsMask z cut
