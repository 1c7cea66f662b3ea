use Rattle.nr_lifting.proofs.{Names.arith, Names.length-unpacked, LaneWordFacts.written_lane, LaneMoveFacts.view-digit}
use Rattle.nr_lifting.proofs.lanes.lane.Lane.load.Goals as goal

-- every word is read
pub returns-clause-bits : goal.returns-clause-bits
returns-clause-bits g c =
    let read = c.loop-i.invariant.read in
    let long = c.loop-i.invariant.long in
    let lane = written_lane g.row.Z c.loop-i.i _ c.loop-i.words _ read (omega (arith, read.long, long))
    (omega (arith, read.long, long)) (omega (arith, read.long, long)) in
    λ t below. view-digit g.row.Z c.loop-i.words t _ lane.clear (read.done t (omega (arith, below)) below)

pub returns-clause-long : goal.returns-clause-long
returns-clause-long g c = length-unpacked g.row.Z c.loop-i.words
