use Rattle.nr_shifttable.proofs.Common.{◌≡◌, true, each_below, is_present}
use Rattle.nr_shifttable.proofs.accept.rows_present.Given as goal

abbrev pub invariant-loop-row : goal.invariant-loop-row
invariant-loop-row l = each_below l.row (is_present l.entries) ≡ true
