-- The stores so far have heard what others have. All are as long as these.
use Rattle.nr_blockdesk.proofs.Common.{◌≡◌, ℕ, ◌<◌, heard_of, length, take}
use Rattle.nr_blockdesk.proofs.receiver.copying.stores_again.Given as goal

abbrev pub invariant-loop-r : goal.invariant-loop-r
invariant-loop-r l = record {
  many : length l.stores.items ≡ length l.from;
  long : (q : ℕ) → q < length l.from → length (heard_of l.stores.items q).first ≡ length (heard_of l.from q).first;
  copied : take l.r l.stores.items ≡ take l.r l.from;
}
