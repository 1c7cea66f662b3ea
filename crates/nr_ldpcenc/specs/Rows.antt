-- The rows of the parity-check matrix H of a code block (TS 38.212, 5.3.2). Each entry of the base graph is replaced by
-- an identity matrix of the lifting size. It is shifted to the right by the entry's value modulo that size.
use Rattle.std.specs.Prelude.{◌≡◌, ℕ, ◌+◌, ◌*◌, ◌%◌, Bool, true, not, List, map}
use Rattle.std.specs.List.{list_all, range_with_len}
use Rattle.nr_graphpick.specs.declared.Graph.{Graph}
use Rattle.nr_graphpick.specs.Graph.{rows_of, cols_of}
use Rattle.nr_segment.specs.CodeBlock.{numbers}
use Rattle.nr_segment.specs.Plan.{Numbers}
use Rattle.nr_segment.specs.declared.numbers.Plan.{Plan}
use Rattle.nr_shifttable.specs.declared.entry.Entry.{Entry}
use Rattle.nr_shifttable.specs.Accepted.{Entries, entries_in}
use Rattle.nr_shifttable.specs.Tails.{row_of, value_in}
use Rattle.nr_ldpcenc.specs.Parity.{parity}

-- Parity checks: how many rows of blocks there are, how many rows in each, how many positions of a word, and each row's
-- ones. `row i t` has the positions of the ones in row t of row of blocks i.
pub record Checks : Type 0 where
  pub rows : ℕ
  pub lanes : ℕ
  pub size : ℕ
  pub row : ℕ → ℕ → List ℕ

-- whether a word meets every row: H times the word is zero
unfoldable pub meets_all : Checks → (ℕ → Bool) → Bool
meets_all c w =
    list_all (λ i. list_all (λ t. not (parity w (c.row i t))) (range_with_len 0 c.lanes)) (range_with_len 0 c.rows)

-- a word meets every row
abbrev pub Meets : Checks → (ℕ → Bool) → Type 0
Meets c w = meets_all c w ≡ true

-- where row t of a block has its one, for the lifting size z, the block's column and the entry's value v
abbrev pub one_at : ℕ → ℕ → ℕ → ℕ → ℕ
one_at z t col v = col * z + (t + v % z) % z

-- the positions of the ones in row t of a row of blocks, a list of entries
abbrev pub positions : ℕ → ℕ → ℕ → List Entry → List ℕ
positions set z t row = map (λ e. one_at z t e.col (value_in set e)) row

-- the parity checks of a base graph's entries, with their values in a set, for the lifting size z
abbrev pub checks_of : List Entry → ℕ → ℕ → ℕ → ℕ → Checks
checks_of es set z rows cols = record { rows = rows; lanes = z; size = cols * z; row = λ i t. positions set z t (row_of es i) }

-- the parity checks of a code block
abbrev pub block_checks : Entries → Graph → Numbers → Checks
block_checks t g p = checks_of (entries_in g t) p.set p.z (rows_of g) (cols_of g)

-- the parity checks of a plan
abbrev pub plan_checks : Entries → Plan → Checks
plan_checks t p = block_checks t p.graph (numbers p)
