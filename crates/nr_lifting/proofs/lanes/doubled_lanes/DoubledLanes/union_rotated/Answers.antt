use Rattle.nr_lifting.proofs.Names.{[], ap, arith, bit, block_bits, get_or, ◌||◌, ◌∙◌}
use Rattle.nr_lifting.proofs.RotationFacts.{doubled-gains}
use Rattle.nr_lifting.proofs.DoubledLaneFacts.{block_within, doubled_read, joined_bits, doubled_set, turned_marks}
use Rattle.nr_lifting.proofs.lanes.doubled_lanes.DoubledLanes.union_rotated.Goals as goal

pub index_mut-requires : goal.index_mut-requires
index_mut-requires g c = omega (arith, block_within c.self.invariant c.self.view_is c.args.j c.requires.block)

-- No place past the block's two copies is set, by the invariant, and none of the rotated lane past one.
pub union_doubled-requires : goal.union_doubled-requires
union_doubled-requires g c =
    let read = doubled_read c.self.invariant c.self.view_is c.args.j c.requires.block c.index_mut.ensures.value in (
      omega arith,
      (
        omega arith,
        (
          c.self.invariant.twice,
          (c.self.invariant.short, (rw read (c.self.invariant.clear c.args.j), c.rotate_lane-turned.ensures.clear)),
        ),
      ),
    )

pub invariant_of-self : goal.invariant_of-self
invariant_of-self g c =
    let read = doubled_read c.self.invariant c.self.view_is c.args.j c.requires.block c.index_mut.ensures.value in
    doubled_set c.self.inside.size c.self.invariant.some g.row.W g.row.D c.self.inside.mask c.self.inside.blocks.items c.args.j
    c.union_doubled.new.doubled c.self.invariant (block_within c.self.invariant c.self.view_is c.args.j c.requires.block)
    (doubled-gains c.self.inside.size c.union_doubled.new.doubled (get_or c.self.inside.blocks.items c.args.j [])
    c.rotate_lane-turned.result
    (c.self.invariant.doubled c.args.j) (rw read at c.union_doubled.ensures.joined)) c.union_doubled.ensures.doubled_clear

-- The block gains the ones of the lane that `rotate_lane` turned by p, and no other block changes.
pub returns-clause-joined : goal.returns-clause-joined
returns-clause-joined g c = λ q.
    let z = c.self.inside.size in
    let bits = (block_bits z c.self.inside.blocks.items).items in
    let read = doubled_read c.self.invariant c.self.view_is c.args.j c.requires.block c.index_mut.ensures.value in
    rw (← c.self.view_is)
    (joined_bits z c.self.invariant.some c.self.inside.blocks.items c.args.j c.union_doubled.new.doubled c.rotate_lane-turned.result
    (block_within c.self.invariant c.self.view_is c.args.j c.requires.block) (rw read at c.union_doubled.ensures.joined) q
    ∙ ap (λ b. bit bits q || b)
    (turned_marks z c.self.invariant.some c.args.j c.args.p c.rotate_lane-turned.result c.args.lane.now
    c.rotate_lane-turned.ensures.rotated q))
