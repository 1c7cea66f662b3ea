use Rattle.nr_calls.proofs.Common.{◌≡◌, ◌<◌, ℕ, get_or, length}
use Rattle.std.proofs.Common.{◌%◌}
use Rattle.nr_interleave.specs.Interleaving.{seat_of}
use Rattle.nr_ratematch.specs.Selection.{place_of}
use Rattle.nr_calls.specs.{Placing.index_by, inside.Placings.placing_of}
use Rattle.nr_calls.proofs.placing.write_part.Given as goal

-- the rows so far
abbrev pub invariant-loop-row : goal.invariant-loop-row
invariant-loop-row l = (m : ℕ) → m < length l.out → m % l.placed.tx.qm < l.row → get_or l.out m 0
    ≡ index_by (placing_of l.placed) l.r (place_of l.placed.buffer l.placed.tx.rv (seat_of l.placed.tx.qm (length l.fn.out) m))
