-- The words so far are codewords, and the peelers are unchanged.
use Rattle.nr_blockdesk.proofs.Common.{◌≡◌, ℕ, ◌<◌, codeword, code_bits, numbers, positions_of, AreWords, kept_words}
use Rattle.nr_blockdesk.proofs.Common.{word_at, peelers_of}
use Rattle.nr_blockdesk.proofs.encoder.encode_words.Given as goal

abbrev pub invariant-loop-r : goal.invariant-loop-r
invariant-loop-r g l = record {
  words : AreWords l.plan.c (positions_of l.plan) (kept_words l.code_blocks);
  peelers : peelers_of l.code_blocks ≡ peelers_of l.fn.code_blocks;
  encoded : (q : ℕ) → q < l.r → word_at (kept_words l.code_blocks) q
      ≡ codeword l.table l.plan.graph (numbers l.plan) (code_bits (numbers l.plan) l.attached.items q);
}
