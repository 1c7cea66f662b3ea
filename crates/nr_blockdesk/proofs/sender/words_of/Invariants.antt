-- The codewords of the code blocks so far, and room for the others.
use Rattle.nr_blockdesk.proofs.Common.{◌≡◌, ◌≤◌, map, range_with_len, vec_capacity, attached, codeword, code_bits}
use Rattle.nr_blockdesk.proofs.Common.{numbers}
use Rattle.nr_blockdesk.proofs.sender.words_of.Given as goal

abbrev pub invariant-loop-r : goal.invariant-loop-r
invariant-loop-r l = record {
  encoded : l.words.items
      ≡ map (λ r. codeword l.table l.plan.graph (numbers l.plan) (code_bits (numbers l.plan) (attached l.block.items) r))
      (range_with_len 0 l.r);
  room : l.plan.c ≤ vec_capacity l.words;
}
