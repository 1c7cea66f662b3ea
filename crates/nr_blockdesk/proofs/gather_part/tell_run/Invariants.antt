-- What the selected bits so far tell is told.
use Rattle.nr_blockdesk.proofs.Common.{marks_in, ◌≡◌, ℕ, ◌+◌, ◌-◌, ◌<◌, ◌≤◌, ◌||◌, Bool, length}
use Rattle.nr_blockdesk.proofs.Common.{list_any}
use Rattle.nr_blockdesk.proofs.Common.{range_with_len, Circular, place_of, bit_says, received_marks}
use Rattle.nr_blockdesk.specs.inside.PartMasks.{is_listed}
use Rattle.nr_blockdesk.proofs.gather_part.tell_run.Given as goal

abbrev pub decreases-loop-at : goal.decreases-loop-at
decreases-loop-at l = l.count - l.at

abbrev pub invariant-loop-at : goal.invariant-loop-at
invariant-loop-at l = record {
  told : (b : Circular) (rv : ℕ) → ((j : ℕ) → j < l.count → place_of b rv (l.k + j) ≡ l.position + j)
      → (p : ℕ) (v : Bool) → is_listed (marks_in l.told) p v ≡ (is_listed (marks_in l.fn.told) p v
      || list_any (bit_says b rv (received_marks l.selected) l.selected.value.items p v) (range_with_len l.k l.at));
  below : l.at ≤ l.count;
  long : length l.told.heard.items ≡ length l.fn.told.heard.items;
}
