use Rattle.nr_lifting.proofs.Names.{arith}
use Rattle.nr_lifting.proofs.DoubledLaneFacts.{block_within, lanes_are, doubled_read, lane_lacks}
use Rattle.nr_lifting.proofs.lanes.doubled_lanes.DoubledLanes.lacking.Goals as goal

pub index-requires : goal.index-requires
index-requires g c = omega (arith, block_within c.self.invariant c.self.view_is c.args.j c.requires.block)

-- By the invariant the block is kept as a doubled lane, and the caller's lane has no bit past the block's places.
pub less_doubled-requires : goal.less_doubled-requires
less_doubled-requires g c =
    let same = lanes_are c.self.invariant c.self.view_is in
    let read = doubled_read c.self.invariant c.self.view_is c.args.j c.requires.block c.index.ensures in (
      omega arith,
      (
        omega arith,
        (
          c.self.invariant.twice,
          (
            c.self.invariant.short,
            (
              omega (arith, c.requires.rotation, same),
              (rw read (c.self.invariant.doubled c.args.j), λ t past. c.requires.clear t (omega (arith, same, past))),
            ),
          ),
        ),
      ),
    )

pub returns-clause-bits : goal.returns-clause-bits
returns-clause-bits g c =
    let read = doubled_read c.self.invariant c.self.view_is c.args.j c.requires.block c.index.ensures in
    rw (← c.self.view_is)
    (lane_lacks c.self.inside.size c.self.invariant.some c.self.inside.blocks.items c.args.j c.args.rotation c.less_doubled.result
    c.args.lane.now (rw read at c.less_doubled.ensures.less))
