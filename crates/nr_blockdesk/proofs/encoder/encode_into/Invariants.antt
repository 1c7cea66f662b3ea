-- The bits so far are those of the code block with its fillers.
use Rattle.nr_blockdesk.proofs.Common.{◌≡◌, ℕ, ◌+◌, ◌*◌, ◌<◌, drop, length, min, bit, word_size, code_block}
use Rattle.nr_blockdesk.proofs.Common.{numbers}
use Rattle.nr_blockdesk.proofs.encoder.encode_into.Given as goal

abbrev pub invariant-loop-i : goal.invariant-loop-i
invariant-loop-i l = record {
  long : length l.word ≡ word_size l.plan.graph (numbers l.plan);
  same : (q : ℕ) → q < min (64 * l.i) l.share → bit l.word q ≡ bit (drop l.start l.attached.items) q;
}

abbrev pub invariant-loop-j : goal.invariant-loop-j
invariant-loop-j l = record {
  long : length l.word ≡ word_size l.plan.graph (numbers l.plan);
  same : (q : ℕ) → q < min (l.share + 64 * l.j) l.plan.k
      → bit l.word q ≡ bit (code_block (numbers l.plan) l.attached.items l.r) q;
}
