-- The peelers so far know what others know. All peelers are of the others' codes, and all words are what they were.
use Rattle.nr_blockdesk.proofs.Common.{◌≡◌, ℕ, ◌<◌, get_or, length, take, CodeBlock, kept_words, peelers_of}
use Rattle.nr_peel.specs.Peeling.{checks_for}
use Rattle.nr_blockdesk.proofs.code_block.code_blocks_again.Given as goal

abbrev pub invariant-loop-r : goal.invariant-loop-r
invariant-loop-r g l = record {
  many : length l.blocks.items ≡ length l.from;
  code : (q : ℕ) (d : CodeBlock g.row.K.Denot) → q < length l.from
      → checks_for (get_or l.blocks.items q d).peeler ≡ checks_for (get_or l.from q d).peeler;
  peelers : take l.r (peelers_of l.blocks.items) ≡ take l.r (peelers_of l.from);
  words : kept_words l.blocks.items ≡ kept_words l.fn.blocks.items;
}
