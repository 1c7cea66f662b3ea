-- The places so far are received. What is told is what the store has now and lacked before, and the word was compared
-- with it. While no position was marked, the masks are empty. The cursors have given the positions of these places.
use Rattle.nr_blockdesk.proofs.Common.{given_count, place_count, heards_of, positions_on, Fits, IsNews, part_hearings, AreEmpty}
use Rattle.nr_blockdesk.proofs.Common.{◌≡◌, ℕ, Bool, false, List, ◌++◌, length, Hearing, record_of, AreCursors}
use Rattle.nr_blockdesk.proofs.hearing.store_by_places.Given as goal

abbrev pub invariant-loop-m : goal.invariant-loop-m
invariant-loop-m l = record {
  recorded : (hs : List Hearing) → l.fn.store ≡ record_of (length l.fn.store.first) hs
      → l.store ≡ record_of (length l.fn.store.first)
      (hs ++ part_hearings l.part.arrival.now.buffer.now l.part.arrival.now.tx.now (heards_of l.part) l.m);
  news : IsNews l.fn.store l.store l.part_masks.heard.items l.part_masks.value.items;
  marks : length l.part_masks.heard.items ≡ positions_on l.part.arrival.now.buffer.now;
  bits : length l.part_masks.value.items ≡ positions_on l.part.arrival.now.buffer.now;
  none : l.any ≡ false → AreEmpty (positions_on l.part.arrival.now.buffer.now) l.part_masks;
  fewer : (w : ℕ → Bool) → Fits l.store w → Fits l.fn.store w;
  cursors : AreCursors l.part.arrival.now.buffer.now l.part.arrival.now.tx.now.rv l.part.arrival.now.tx.now.qm l.cursors;
  places : place_count l.part.arrival.now.tx.now.qm l.cursors ≡ l.part.count;
  given : given_count l.part.arrival.now.tx.now.qm l.cursors ≡ l.m;
}
