-- Blocks of z bits, each kept as a doubled lane, and lanes that mark some of the bits of one.
use Rattle.std.specs.Prelude.{ℕ, zero, suc, ◌+◌, ◌*◌, ◌/◌, ◌%◌, ◌==◌, ◌&&◌, Bool, if◌then◌else◌}
use Rattle.std.specs.Prelude.{List, [], length, map, slice_index_or}
use Rattle.std.specs.List.{range_with_len}
use Rattle.nr_bitvec.specs.Packed.{place}

-- what contracts see of blocks of bits: the bits, block after block, and how many a block has
pub record BlockBits : Type 0 where
  pub items : List Bool
  pub lanes : ℕ

-- whether a lane's words have place t set
abbrev pub is_set : List ℕ → ℕ → Bool
is_set words t = place words t == 1

-- the bits of block j that a lane marks, of blocks of z bits
abbrev pub lane_marks : ℕ → ℕ → (ℕ → Bool) → ℕ → Bool
lane_marks z j lane p = (p / z == j) && lane (p % z)

-- bit p of blocks of z bits that are kept as doubled lanes
abbrev pub doubled_bit : ℕ → List (List ℕ) → ℕ → Bool
doubled_bit z blocks p = is_set (slice_index_or blocks (p / z) []) (p % z)

-- the blocks of z bits that doubled lanes keep
abbrev pub block_bits : ℕ → List (List ℕ) → BlockBits
block_bits z blocks = record { items = map (doubled_bit z blocks) (range_with_len 0 (length blocks * z)); lanes = z }

-- how many of the first n numbers are marked
abbrev pub marked_count : (ℕ → Bool) → ℕ → ℕ
marked_count u zero = 0
marked_count u (suc n) = marked_count u n + (if u n then 1 else 0)
