use Rattle.nr_lifting.proofs.{Names.arith, CountViewFacts.planes_fit}
use Rattle.nr_lifting.proofs.lanes.bit_sliced_counts.CountBlock.alike.Goals as goal

pub planes_of-requires : goal.planes_of-requires
planes_of-requires g c = omega (arith, planes_fit g.row.P g.row.W c.requires.thin c.requires.words)
