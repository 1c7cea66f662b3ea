use Rattle.nr_lifting.proofs.Names.{arith, place-zeros}
use Rattle.nr_lifting.proofs.DoubledLaneFacts.{block_within, cleared_bits, doubled_set, zero_doubled}
use Rattle.nr_lifting.proofs.lanes.doubled_lanes.DoubledLanes.clear.Goals as goal

pub index_mut-requires : goal.index_mut-requires
index_mut-requires g c = omega (arith, block_within c.self.invariant c.self.view_is c.args.j c.requires)

pub invariant_of-self : goal.invariant_of-self
invariant_of-self g c =
    doubled_set _ c.self.invariant.some g.row.W g.row.D _ _ _ _ c.self.invariant
    (block_within c.self.invariant c.self.view_is c.args.j c.requires)
    (zero_doubled c.self.inside.size g.row.D) (λ t past. place-zeros g.row.D t)

pub returns-clause-cleared : goal.returns-clause-cleared
returns-clause-cleared g c =
    rw (← c.self.view_is) (cleared_bits c.self.inside.size c.self.invariant.some c.self.inside.blocks.items c.args.j g.row.D
    (block_within c.self.invariant c.self.view_is c.args.j c.requires))
