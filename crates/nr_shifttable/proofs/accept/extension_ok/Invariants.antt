use Rattle.nr_shifttable.proofs.Common.{◌≡◌, true, each_below, own_column_ok}
use Rattle.nr_shifttable.proofs.accept.extension_ok.Given as goal

abbrev pub invariant-loop-row : goal.invariant-loop-row
invariant-loop-row l = each_below l.row (own_column_ok l.n l.entries) ≡ true
