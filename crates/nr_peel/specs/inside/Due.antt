-- Which row blocks have something to look at. The others cost no operation.
use Rattle.std.specs.Prelude.{◌≡◌, ◌≢◌, ℕ, ◌+◌, ◌*◌, ◌/◌, ◌<◌, ◌≤◌, Bool, false, List, length}
use Rattle.std.specs.Prelude.{count_by, slice_index}
use Rattle.nr_bitvec.specs.Bit.{bit}
use Rattle.nr_lifting.specs.Planes.{BlockCounts}

-- What contracts see of the counts of rows: the counts, row block after row block, and how many a block has. Then which row
-- blocks are due, and how many operations were made.
pub record DueCounts : Type 0 where
  pub items : List ℕ
  pub lanes : ℕ
  pub due : List Bool
  pub operations : ℕ

-- how they are seen
abbrev pub due_counts : BlockCounts → List Bool → ℕ → DueCounts
due_counts counts due operations = record { items = counts.items; lanes = counts.lanes; due = due; operations = operations }

-- n more operations
abbrev pub with_operations : DueCounts → ℕ → DueCounts
with_operations s n = record { items = s.items; lanes = s.lanes; due = s.due; operations = s.operations + n }

-- how many are due
abbrev pub due_in : List Bool → ℕ
due_in due = count_by (λ b. b) due

-- operations that were made, and those that are owed: one for each row block that is due
abbrev pub work_of : DueCounts → ℕ
work_of s = s.operations + due_in s.due

-- a row block that isn't due has no count that is exactly one
pub record AreKept (counts : BlockCounts) (due : List Bool) : Type 0 where
  pub some : 0 < counts.lanes
  pub few : length counts.items ≤ 46 * counts.lanes
  pub settled : (k : ℕ) → bit due (k / counts.lanes) ≡ false → slice_index counts.items k ≢ 1
