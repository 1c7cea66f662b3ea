use Rattle.nr_lifting.proofs.LaneViewFacts.{unpacked-zeros}
use Rattle.nr_lifting.proofs.lanes.lane.Lane.zero.Goals as goal

pub returns : goal.returns
returns g c = unpacked-zeros g.row.Z g.row.W
