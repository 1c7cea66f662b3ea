use Rattle.nr_blockdesk.proofs.Common.{arith, cases_eq}
use Rattle.std.proofs.lemmas.List.Sums.{get_or-le-sum_by}
use Rattle.nr_bitvec.proofs.NumberFacts.{ord_max-nat}
use Rattle.nr_blockdesk.proofs.sender.longest.Goals as goal

pub loop-e-preserved : goal.loop-e-preserved
loop-e-preserved c = grind (arith, ord_max-nat, cases_eq, get_or-le-sum_by)
