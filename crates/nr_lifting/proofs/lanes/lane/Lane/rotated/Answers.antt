use Rattle.nr_lifting.proofs.Names.{ap, arith, bit-place, length-unpacked, sym, ◌%◌, ◌+◌, ◌==◌, ◌∙◌}
use Rattle.nr_lifting.proofs.LaneWordFacts.{written_lane}
use Rattle.nr_lifting.proofs.lanes.lane.Lane.rotated.Goals as goal

-- every word is rotated
pub returns-clause-bits : goal.returns-clause-bits
returns-clause-bits g c = λ t below.
    let turned = c.loop-i.invariant.turned in
    let long = c.loop-i.invariant.long in
    let lane = written_lane g.row.Z c.loop-i.i _ c.loop-i.rotated _ turned (omega (arith, turned.long, long))
    (omega (arith, turned.long, long)) (omega (arith, turned.long, long)) in
    rw (← c.self.view_is) (bit-place g.row.Z c.loop-i.rotated t lane.clear
    ∙ ap (λ n. n == 1) (turned.done t (omega (arith, below)) below)
    ∙ sym (bit-place g.row.Z c.self.inside.words ((t + c.args.p) % g.row.Z) c.self.invariant.clear))

pub returns-clause-long : goal.returns-clause-long
returns-clause-long g c = length-unpacked g.row.Z c.loop-i.rotated
