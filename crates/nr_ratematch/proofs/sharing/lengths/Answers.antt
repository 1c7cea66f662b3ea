-- The lengths are those of the specification, and so they are shared.
use Rattle.nr_ratematch.proofs.{Common.arith, Common.is_scheduled, Common.lengths_said, LengthLemmas.lengths-shared}
use Rattle.std.proofs.lemmas.Grind.{common_steps}
use Rattle.nr_ratematch.proofs.sharing.lengths.Goals as goal

pub returns-then-not-contains-clause-said : goal.returns-then-not-contains-clause-said
unfolding lengths_said
returns-then-not-contains-clause-said c = grind (arith, common_steps)

pub returns-then-not-contains-2-clause-said : goal.returns-then-not-contains-2-clause-said
unfolding lengths_said
returns-then-not-contains-2-clause-said c = grind (arith, common_steps)

pub returns-clause-said : goal.returns-clause-said
unfolding lengths_said
returns-clause-said c = grind (arith, common_steps)

pub returns-clause-shared : goal.returns-clause-shared
returns-clause-shared c =
    lengths-shared (is_scheduled c.args.mask) c.args.plan.now.c c.args.g c.args.qm c.args.nl c.shares.result.items
    (returns-clause-said c)
