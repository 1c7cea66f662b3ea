use Rattle.nr_segment.proofs.CodeBlockLemmas.{length-code_bits, length-code_block}
use Rattle.nr_segment.proofs.laws.code_blocks_are_long.Goals as goal

pub returns-clause-bits : goal.returns-clause-bits
returns-clause-bits c = length-code_bits

pub returns-clause-filled : goal.returns-clause-filled
returns-clause-filled c = length-code_block
