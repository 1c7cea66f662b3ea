use Rattle.nr_calls.proofs.Common.{◌≡◌, ◌≢◌, ◌+◌, ◌-◌, ◌*◌, ◌<◌, ℕ, get_or}
use Rattle.std.proofs.Common.{◌%◌}
use Rattle.nr_ratematch.specs.Selection.{place_of}
use Rattle.nr_calls.specs.{Placing.index_by, inside.Placings.placing_of}
use Rattle.nr_calls.proofs.placing.write_row.Given as goal

-- the columns so far
abbrev pub invariant-loop-column : goal.invariant-loop-column
invariant-loop-column l = record {
  each : (j : ℕ) → j < l.column → get_or l.out (j * l.placed.tx.qm + l.row) 0
      ≡ index_by (placing_of l.placed) l.r (place_of l.placed.buffer l.placed.tx.rv (l.row * l.columns + j));
  others : (m : ℕ) → m % l.placed.tx.qm ≢ l.row → get_or l.out m 0 ≡ get_or l.fn.out m 0;
}

abbrev pub decreases-loop-column : goal.decreases-loop-column
decreases-loop-column l = l.columns - l.column
