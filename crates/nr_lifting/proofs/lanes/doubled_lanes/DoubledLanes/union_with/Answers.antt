use Rattle.nr_lifting.proofs.{Names.[], Names.arith, Names.get_or, RotationFacts.doubled-gains}
use Rattle.nr_lifting.proofs.DoubledLaneFacts.{block_within, lanes_are, doubled_read, joined_bits, doubled_set}
use Rattle.nr_lifting.proofs.lanes.doubled_lanes.DoubledLanes.union_with.Goals as goal

pub index_mut-requires : goal.index_mut-requires
index_mut-requires g c = omega (arith, block_within c.self.invariant c.self.view_is c.args.j c.requires.block)

-- No place past the block's two copies is set, by the invariant, and none of the lane past one.
pub union_doubled-requires : goal.union_doubled-requires
union_doubled-requires g c =
    let same = lanes_are c.self.invariant c.self.view_is in
    let read = doubled_read c.self.invariant c.self.view_is c.args.j c.requires.block c.index_mut.ensures.value in (
      omega arith,
      (
        omega arith,
        (
          c.self.invariant.twice,
          (
            c.self.invariant.short,
            (rw read (c.self.invariant.clear c.args.j), λ t past. c.requires.clear t (omega (arith, same, past))),
          ),
        ),
      ),
    )

pub invariant_of-self : goal.invariant_of-self
invariant_of-self g c =
    let read = doubled_read c.self.invariant c.self.view_is c.args.j c.requires.block c.index_mut.ensures.value in
    doubled_set c.self.inside.size c.self.invariant.some g.row.W g.row.D c.self.inside.mask c.self.inside.blocks.items c.args.j
    c.union_doubled.new.doubled c.self.invariant (block_within c.self.invariant c.self.view_is c.args.j c.requires.block)
    (doubled-gains c.self.inside.size c.union_doubled.new.doubled (get_or c.self.inside.blocks.items c.args.j []) c.args.lane.now
    (c.self.invariant.doubled c.args.j) (rw read at c.union_doubled.ensures.joined)) c.union_doubled.ensures.doubled_clear

pub returns-clause-joined : goal.returns-clause-joined
returns-clause-joined g c =
    let read = doubled_read c.self.invariant c.self.view_is c.args.j c.requires.block c.index_mut.ensures.value in
    rw (← c.self.view_is)
    (joined_bits c.self.inside.size c.self.invariant.some c.self.inside.blocks.items c.args.j c.union_doubled.new.doubled
    c.args.lane.now
    (block_within c.self.invariant c.self.view_is c.args.j c.requires.block) (rw read at c.union_doubled.ensures.joined))
