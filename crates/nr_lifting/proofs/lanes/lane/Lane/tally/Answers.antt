use Rattle.nr_lifting.proofs.{Names.arith, LaneViewFacts.view-once, LaneViewFacts.view-twice}
use Rattle.nr_lifting.proofs.lanes.lane.Lane.tally.Goals as goal

pub returns-clause-ones : goal.returns-clause-ones
returns-clause-ones g c = grind (arith, view-once)

pub returns-clause-more : goal.returns-clause-more
returns-clause-more g c = grind (arith, view-twice)
