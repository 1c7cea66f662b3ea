-- What the selected bits so far tell is told.
use Rattle.nr_blockdesk.proofs.Common.{marks_in, ◌≡◌, ℕ, ◌-◌, ◌≤◌, ◌||◌, Bool, true, length, list_any}
use Rattle.nr_blockdesk.proofs.Common.{range_with_len, says, bit_says, received_marks}
use Rattle.nr_blockdesk.proofs.gather_part.gather_part.Given as goal

abbrev pub decreases-loop-k : goal.decreases-loop-k
decreases-loop-k l = l.count - l.k

abbrev pub invariant-loop-k : goal.invariant-loop-k
invariant-loop-k l = record {
  part_masks : l.one_bit ≡ true → (p : ℕ) (v : Bool) → says (marks_in l.part_masks) p v
      ≡ (says (marks_in l.fn.part_masks) p v
      || list_any (bit_says l.buffer l.rv (received_marks l.selected) l.selected.value.items p v) (range_with_len 0 l.k));
  below : l.k ≤ l.count;
  marks : length l.part_masks.heard.items ≡ length l.fn.part_masks.heard.items;
  bits : length l.part_masks.value.items ≡ length l.fn.part_masks.value.items;
}
