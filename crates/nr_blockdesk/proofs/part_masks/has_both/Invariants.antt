-- No place of the rows so far has a position that is told both bits.
use Rattle.nr_blockdesk.proofs.Common.{◌≡◌, ℕ, ◌+◌, ◌*◌, ◌%◌, ◌<◌, ◌≤◌, false, marks_in, place_of}
use Rattle.nr_blockdesk.proofs.Common.{seat_of}
use Rattle.nr_blockdesk.specs.inside.PartMasks.{is_listed_both}
use Rattle.nr_blockdesk.proofs.part_masks.has_both.Given as goal

abbrev pub invariant-loop-row : goal.invariant-loop-row
invariant-loop-row l = (m : ℕ) → l.part.arrival.now.tx.now.qm * l.column ≤ m
    → m < l.part.arrival.now.tx.now.qm * (l.column + l.count) → m % l.part.arrival.now.tx.now.qm < l.row
    → is_listed_both (marks_in l.told) (place_of l.part.arrival.now.buffer.now l.part.arrival.now.tx.now.rv
    (seat_of l.part.arrival.now.tx.now.qm l.part.count m)) ≡ false
