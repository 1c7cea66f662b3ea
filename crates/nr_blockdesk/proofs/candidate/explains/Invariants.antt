-- The words so far have every first bit.
use Rattle.nr_blockdesk.proofs.Common.{ℕ, ◌<◌, bit, heard_of, Fits, kept_words, word_at}
use Rattle.nr_blockdesk.proofs.candidate.explains.Given as goal

abbrev pub invariant-loop-r : goal.invariant-loop-r
invariant-loop-r g l = (q : ℕ) → q < l.r → Fits (heard_of l.stores q) (bit (word_at (kept_words l.code_blocks) q))
