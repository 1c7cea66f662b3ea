-- The bits of the code blocks so far are in the list.
use Rattle.std.proofs.Common.{length, map, take, ◌*◌, ◌≡◌}
use Rattle.nr_segment.specs.CodeBlock.{joined_blocks, numbers, share}
use Rattle.nr_segment.proofs.code_block.join.Given as goal

abbrev pub invariant-loop-block : goal.invariant-loop-block
invariant-loop-block l = record {
  items : l.bits.items ≡ joined_blocks (numbers l.plan) (map (λ block. block.items) (take l.block-index l.blocks));
  long : length l.bits.items ≡ l.block-index * share (numbers l.plan);
}
