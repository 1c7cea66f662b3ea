-- The places of the words so far are marked, and there is room for the others.
use Rattle.nr_blockdesk.proofs.Common.{◌≡◌, ℕ, ◌+◌, ◌*◌, ◌<◌, ◌≤◌, min, length, bit, heard_at}
use Rattle.nr_blockdesk.proofs.Common.{place_heard}
use Rattle.nr_blockdesk.proofs.marks.marks_of.Given as goal

abbrev pub invariant-loop-i : goal.invariant-loop-i
invariant-loop-i l = record {
  marks : length l.heard.items ≡ min (64 * l.i) l.count;
  bits : length l.value.items ≡ min (64 * l.i) l.count;
  marks_room : l.count ≤ length l.heard.items + l.heard.room;
  bits_room : l.count ≤ length l.value.items + l.value.room;
  part_masks : (m : ℕ) → m < min (64 * l.i) l.count
      → place_heard (bit l.heard.items m) (bit l.value.items m) ≡ heard_at l.places m;
}
