use Rattle.nr_calls.proofs.Common.{◌≡◌, ◌++◌, take, column}
use Rattle.nr_calls.proofs.batch.push_column.Given as goal

-- the rows so far
abbrev pub invariant-loop-row : goal.invariant-loop-row
invariant-loop-row l = l.numbers.items ≡ l.fn.numbers.items ++ column (take l.row-index l.rows) l.j
