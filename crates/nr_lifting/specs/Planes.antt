-- Counts that are kept as bit planes. Bit t of plane b is bit b of count t.
use Rattle.std.specs.Prelude.{ℕ, zero, suc, ◌+◌, ◌-◌, ◌*◌, ◌/◌, ◌%◌, ◌^◌, List, [], length, map}
use Rattle.std.specs.Prelude.{slice_index_or}
use Rattle.std.specs.List.{range_with_len}
use Rattle.nr_bitvec.specs.Packed.{place}
use Rattle.nr_lifting.specs.declared.lanes.bit_sliced_counts.CountBlock.{CountBlock}

-- the number that the first n of some digits write, the lowest first
abbrev pub digits_below : ℕ → (ℕ → ℕ) → ℕ
digits_below zero digit = 0
digits_below (suc n) digit = digits_below n digit + 2 ^ n * digit n

-- count t of planes, each of which has a bit of every count
abbrev pub plane_number : List (List ℕ) → ℕ → ℕ
plane_number planes t = digits_below (length planes) (λ b. place (slice_index_or planes b []) t)

-- ---- several blocks

-- what contracts see of blocks of counts: the counts, block after block, and how many a block has
pub record BlockCounts : Type 0 where
  pub items : List ℕ
  pub lanes : ℕ

-- no block of counts
abbrev pub no_block : {P W : ℕ} → CountBlock P W
no_block = record { planes = []; less = 0 }

-- count t of a block: what its planes say, less what was subtracted from all of them
abbrev pub count_of : {P W : ℕ} → CountBlock P W → ℕ → ℕ
count_of block t = plane_number block.planes t - block.less

-- count k of blocks of z counts that are kept as bit planes
abbrev pub plane_count : {P W : ℕ} → ℕ → List (CountBlock P W) → ℕ → ℕ
plane_count z blocks k = count_of (slice_index_or blocks (k / z) no_block) (k % z)

-- the blocks of z counts that bit planes keep
abbrev pub block_counts : {P W : ℕ} → ℕ → List (CountBlock P W) → BlockCounts
block_counts z blocks = record { items = map (plane_count z blocks) (range_with_len 0 (length blocks * z)); lanes = z }
