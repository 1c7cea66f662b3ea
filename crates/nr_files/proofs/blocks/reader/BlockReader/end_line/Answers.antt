use Rattle.nr_files.proofs.Common.{arith, err_from_is_err_and}
use Rattle.nr_files.proofs.BlockLineFacts.{turn-block, turn-fault, turn-many}
use Rattle.std.proofs.lemmas.List.{length-map, map-append}
use Rattle.nr_files.proofs.blocks.reader.BlockReader.end_line.Goals as goal

pub returns-then-len-eq-MOST_BLOCKS-clause-said : goal.returns-then-len-eq-MOST_BLOCKS-clause-said
returns-then-len-eq-MOST_BLOCKS-clause-said c lines = grind (arith, length-map, turn-many)

pub returns-in_err-block-clause-said : goal.returns-in_err-block-clause-said
returns-in_err-block-clause-said c lines = grind (arith, err_from_is_err_and, length-map, turn-fault)

pub returns-clause-said : goal.returns-clause-said
returns-clause-said c lines = grind (arith, length-map, map-append, turn-block)
