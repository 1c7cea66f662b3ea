-- What the bits so far tell is with those at the beginning.
use Rattle.nr_blockdesk.proofs.Common.{◌≡◌, ℕ, ◌+◌, ◌-◌, ◌≤◌, ◌||◌, ◌&&◌, nat_lt, Bool, true, length}
use Rattle.nr_blockdesk.proofs.Common.{HasRoomFor, received_marks, selected_says}
use Rattle.nr_blockdesk.proofs.selected.Selected.fold.Given as goal

abbrev pub decreases-loop-at : goal.decreases-loop-at
decreases-loop-at l = l.count - l.at

abbrev pub invariant-loop-at : goal.invariant-loop-at
invariant-loop-at l = record {
  said : l.one_bit ≡ true → (k : ℕ) (v : Bool)
      → selected_says l.self k v ≡ (selected_says l.fn.self k v || (nat_lt k l.at && selected_says l.fn.self (l.from + k) v));
  long : length l.self.value.items ≡ length l.fn.self.value.items;
  both : length (received_marks l.self) ≡ length l.fn.self.value.items;
  room : (n : ℕ) → HasRoomFor n l.fn.self → HasRoomFor n l.self;
  below : l.at ≤ l.count;
}
