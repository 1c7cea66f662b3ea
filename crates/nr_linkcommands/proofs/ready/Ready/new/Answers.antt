use Rattle.nr_linkcommands.proofs.Common.{arith}
use Rattle.nr_linkcommands.proofs.ready.Ready.new.Goals as goal

pub invariant_of-result : goal.invariant_of-result
invariant_of-result c = grind arith
