-- The stores so far have received their parts, and their code blocks too. The others have received nothing yet.
use Rattle.nr_blockdesk.proofs.Common.{◌≡◌, ℕ, ◌<◌, ◌≤◌, length, take, sum, get_or as slice_index_or, piece}
use Rattle.nr_blockdesk.proofs.Common.{heard_of, heards, HasRoomFor, positions_on, HearsPart, StoresPart, AreEmpty, CodeBlock}
use Rattle.nr_blockdesk.proofs.Common.{HeardBits}
use Rattle.nr_blockdesk.proofs.hearing.hear.Given as goal

abbrev pub invariant-loop-r : goal.invariant-loop-r
invariant-loop-r g l = record {
  from : l.from ≡ sum (take l.r l.arrival.lengths.now);
  stores : length l.stores ≡ length l.fn.stores;
  blocks : length l.code_blocks ≡ length l.fn.code_blocks;
  stored : (q : ℕ) → q < l.r → StoresPart l.arrival.buffer.now l.arrival.tx.now
      (piece l.arrival.lengths.now (heards l.arrival.marks.now.heard.items l.arrival.marks.now.value.items) q)
      (heard_of l.fn.stores q) (heard_of l.stores q);
  done : (q : ℕ) (d : CodeBlock g.row.K.Denot) → q < l.r → q < length l.fn.code_blocks
      → HearsPart l.arrival.buffer.now l.arrival.tx.now
      (piece l.arrival.lengths.now (heards l.arrival.marks.now.heard.items l.arrival.marks.now.value.items) q)
      (heard_of l.fn.stores q) (slice_index_or l.fn.code_blocks q d) (heard_of l.stores q) (slice_index_or l.code_blocks q d);
  later : (q : ℕ) (d : HeardBits) → l.r ≤ q → slice_index_or l.stores q d ≡ slice_index_or l.fn.stores q d;
  later_blocks : (q : ℕ) (d : CodeBlock g.row.K.Denot) → l.r ≤ q
      → slice_index_or l.code_blocks q d ≡ slice_index_or l.fn.code_blocks q d;
  empty : AreEmpty (positions_on l.arrival.buffer.now) l.part_masks;
  room : (n : ℕ) → HasRoomFor n l.fn.selected → HasRoomFor n l.selected;
}
