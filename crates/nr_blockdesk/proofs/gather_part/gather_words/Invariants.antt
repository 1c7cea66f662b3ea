-- What the selected bits so far tell is told.
use Rattle.nr_blockdesk.proofs.Common.{marks_in, ◌≡◌, ℕ, ◌+◌, ◌*◌, ◌<◌, ◌||◌, Bool, true, length, list_any}
use Rattle.nr_blockdesk.proofs.Common.{range_with_len, says, Circular, place_of, bit_says, received_marks}
use Rattle.nr_blockdesk.proofs.gather_part.gather_words.Given as goal

abbrev pub invariant-loop-i : goal.invariant-loop-i
invariant-loop-i l = record {
  part_masks : l.one_bit ≡ true → (b : Circular) (rv : ℕ)
      → ((j : ℕ) → j < l.count → place_of b rv (l.k + j) ≡ 64 * l.word + j)
      → (p : ℕ) (v : Bool) → says (marks_in l.part_masks) p v
      ≡ (says (marks_in l.fn.part_masks) p v
      || list_any (bit_says b rv (received_marks l.selected) l.selected.value.items p v) (range_with_len l.k (64 * l.i)));
  marks : length l.part_masks.heard.items ≡ length l.fn.part_masks.heard.items;
  bits : length l.part_masks.value.items ≡ length l.fn.part_masks.value.items;
}
