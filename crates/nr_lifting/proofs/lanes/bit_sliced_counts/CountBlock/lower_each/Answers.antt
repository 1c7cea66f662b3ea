use Rattle.nr_lifting.proofs.{Names.arith, PlaneLaneFacts.number_small}
use Rattle.nr_lifting.proofs.lanes.bit_sliced_counts.CountBlock.lower_each.Goals as goal

pub overflow_add-self : goal.overflow_add-self
overflow_add-self g c = grind (arith, number_small c.args.self.now.planes 0 (omega (arith, c.requires.thin)))
