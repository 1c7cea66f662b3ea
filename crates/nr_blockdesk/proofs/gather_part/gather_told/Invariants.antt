-- What the selected bits so far tell is told.
use Rattle.nr_blockdesk.proofs.Common.{marks_in, ◌≡◌, ℕ, ◌-◌, ◌≤◌, Bool, length, list_any}
use Rattle.nr_blockdesk.proofs.Common.{range_with_len, bit_says, positions_on, received_marks}
use Rattle.nr_blockdesk.specs.inside.PartMasks.{is_listed}
use Rattle.nr_blockdesk.proofs.gather_part.gather_told.Given as goal

abbrev pub decreases-loop-k : goal.decreases-loop-k
decreases-loop-k l = l.count - l.k

abbrev pub invariant-loop-k : goal.invariant-loop-k
invariant-loop-k l = record {
  told : (p : ℕ) (v : Bool) → is_listed (marks_in l.told) p v
      ≡ list_any (bit_says l.buffer l.rv (received_marks l.selected) l.selected.value.items p v) (range_with_len 0 l.k);
  below : l.k ≤ l.count;
  long : length l.told.heard.items ≡ positions_on l.buffer;
}
