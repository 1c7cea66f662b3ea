-- A code block for each store so far: its peeler has learned what the store tells.
use Rattle.nr_blockdesk.proofs.Common.{◌≡◌, ◌≤◌, ◌<◌, ℕ, length, get_or as slice_index_or, vec_capacity}
use Rattle.nr_blockdesk.proofs.Common.{word_size, Peeling, heard_of, AreWords, IsTied, kept_words, peelers_of}
use Rattle.nr_blockdesk.proofs.code_block.code_blocks_of.Given as goal

abbrev pub invariant-loop-r : goal.invariant-loop-r
invariant-loop-r g l = record {
  many : length l.blocks.items ≡ l.r;
  tied : (q : ℕ) (d : Peeling) → q < l.r
      → IsTied l.link (heard_of l.stores q) (slice_index_or (peelers_of l.blocks.items) q d);
  words : AreWords l.r (word_size l.link.graph l.link.plan) (kept_words l.blocks.items);
  room : length l.stores ≤ vec_capacity l.blocks;
}
