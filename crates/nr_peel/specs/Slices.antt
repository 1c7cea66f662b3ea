-- Sets of positions side by side, as words: bit j of word p says whether position p is in set j.
use Rattle.std.specs.Prelude.{◌≡◌, ◌≢◌, ℕ, ◌+◌, ◌*◌, ◌<◌, ◌≤◌, ◌==◌, Bool, true, false, not}
use Rattle.std.specs.{Prelude.List, Prelude.length, Prelude.count_by, Prelude.slice_index, Int.bit_at}
use Rattle.nr_graphpick.specs.{Graph.info_cols_of, Graph.rows_of, declared.Graph.Graph}
use Rattle.nr_segment.specs.Plan.{Numbers}
use Rattle.nr_shifttable.specs.Accepted.{Entries, IsTable, entries_in}
use Rattle.nr_ldpcenc.specs.Rows.{block_checks}
use Rattle.nr_peel.specs.Closure.{Within, closure}

-- set j of some words
abbrev pub slice : List ℕ → ℕ → ℕ → Bool
slice words j p = bit_at (slice_index words p) j == 1

-- Rows of blocks from 4 on may be left out where a set has no position of their own columns. Suppose that no other row has
-- exactly one position outside a set K between S and its closure. Then K is the closure before the extension columns.
abbrev pub SkippedRowsAddNothing : Type 0
SkippedRowsAddNothing = (t : Entries) (g : Graph) (p : Numbers) (S K skip : ℕ → Bool) → IsTable t
    → 0 < length (entries_in g t) → 0 < p.z → p.set < 8
    → ((i : ℕ) → skip i ≡ true → 4 ≤ i)
    → ((i u : ℕ) → i < rows_of g → u < p.z → skip i ≡ false
    → count_by (λ q. not (K q)) ((block_checks t g p).row i u) ≢ 1)
    → ((i u : ℕ) → i < rows_of g → u < p.z → skip i ≡ true → K ((info_cols_of g + i) * p.z + u) ≡ false)
    → Within S K → Within K (closure (block_checks t g p) S)
    → (q : ℕ) → q < (info_cols_of g + 4) * p.z → K q ≡ closure (block_checks t g p) S q
