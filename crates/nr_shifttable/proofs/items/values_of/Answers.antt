-- Each value that fits 16 bits is kept as it was read.
use Rattle.nr_shifttable.proofs.Common.{nat_tests, arith, length-set, common_steps}
use Rattle.nr_shifttable.proofs.ItemFacts.{converted, values-more, values-all}
use Rattle.nr_shifttable.proofs.items.values_of.Goals as goal

pub loop-set-preserved : goal.loop-set-preserved
loop-set-preserved c = grind (arith, common_steps, nat_tests, converted, values-more, length-set)

pub returns : goal.returns
returns c = values-all c.args.numbers.now c.loop-set.values c.loop-set.set (omega arith)
    (omega arith) c.loop-set.invariant.all c.loop-set.invariant.front
