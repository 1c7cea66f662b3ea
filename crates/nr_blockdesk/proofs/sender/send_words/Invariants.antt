-- The bits of the code blocks so far have been joined, and there is room for those of one more.
use Rattle.nr_blockdesk.proofs.Common.{◌≡◌, ◌+◌, ◌≤◌, [], length, get_or as slice_index_or, matching_of}
use Rattle.nr_blockdesk.proofs.SenderFacts.{front_sent}
use Rattle.nr_blockdesk.proofs.sender.send_words.Given as goal

abbrev pub invariant-loop-r : goal.invariant-loop-r
invariant-loop-r l = record {
  joined : l.sent.items ≡ front_sent (matching_of l.buffer l.tx l.lengths) (λ r. slice_index_or l.words r []) l.r;
  room : l.tx.g ≤ l.sent.room + length l.sent.items;
  enough : l.most ≤ l.selected.room + length l.selected.items;
}
