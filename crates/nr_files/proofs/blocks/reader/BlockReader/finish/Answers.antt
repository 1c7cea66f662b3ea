use Rattle.nr_files.proofs.Common.{[], arith, append-nil, nat_tests, err_from_is_err_and, lines_in}
use Rattle.nr_files.proofs.BlockLineFacts.{line_last, turn-end}
use Rattle.nr_files.proofs.blocks.reader.BlockReader.finish.Goals.{then-not-is_empty+in_ok-end_line, else-not-is_empty}
use Rattle.std.proofs.lemmas.List.{nil_from_length}
use Rattle.nr_files.proofs.blocks.reader.BlockReader.finish.Goals as goal

pub returns-in_err-end_line-clause-said : goal.returns-in_err-end_line-clause-said
returns-in_err-end_line-clause-said c said stands =
    grind (arith, nat_tests, append-nil, err_from_is_err_and, line_last, c.in_err-end_line.ensures.said [])

pub returns-clause-said : goal.returns-clause-said
unfolding lines_in
returns-clause-said c said stands = elim c.if-not-is_empty.branch [
  | then-not-is_empty+in_ok-end_line w ↦
      grind (arith, nat_tests, append-nil, line_last, turn-end, w.in_ok-end_line.ensures.said [])
  | else-not-is_empty w ↦ grind (arith, nat_tests, nil_from_length, turn-end)
]
