use Rattle.nr_ratematch.proofs.{Common.arith, LengthLemmas.count_yes, LengthLemmas.count_no}
use Rattle.nr_ratematch.proofs.sharing.scheduled_of.Goals.{then-has, else-has}
use Rattle.nr_ratematch.proofs.sharing.scheduled_of.Goals as goal

pub loop-r-preserved : goal.loop-r-preserved
loop-r-preserved c = grind (arith, then-has, count_yes, else-has, count_no)
