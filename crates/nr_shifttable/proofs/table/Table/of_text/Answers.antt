use Rattle.nr_shifttable.proofs.Common.{arith, err_from_is_err_and}
use Rattle.nr_shifttable.proofs.JudgedFaultFacts.{items-judged, accepted-judged, fault-judged, gives-judged, judged-not}
use Rattle.nr_shifttable.proofs.table.Table.of_text.Goals as goal

pub returns-in_err-items-clause-judged : goal.returns-in_err-items-clause-judged
returns-in_err-items-clause-judged c = grind (arith, err_from_is_err_and, fault-judged, items-judged, judged-not)

pub returns-in_err-items-clause-long : goal.returns-in_err-items-clause-long
returns-in_err-items-clause-long c = grind (arith, err_from_is_err_and, fault-judged, items-judged, judged-not)

pub returns-clause-judged : goal.returns-clause-judged
returns-clause-judged c = grind (arith, judged-not, gives-judged, accepted-judged)

pub returns-clause-long : goal.returns-clause-long
returns-clause-long c = grind (arith, gives-judged, accepted-judged, judged-not)
