use Rattle.nr_lifting.proofs.{Names.arith, Names.refl, LaneWordFacts.written_over, LaneWordFacts.written_more}
use Rattle.nr_lifting.proofs.DoubledWordFacts.{less_low, less_high}
use Rattle.nr_lifting.proofs.lanes.doubled_lanes.less_doubled.Goals as goal

-- the next word is made
pub loop-i-preserved : goal.loop-i-preserved
loop-i-preserved g c =
    written_more _ _ _ _ _ _ _ c.loop-i.invariant (omega arith) refl
    (less_low c.args.size c.loop-i.i c.args.p _ c.piece.result c.args.doubled.now refl c.piece.ensures c.requires.rotation
    c.requires.doubled _ c.args.lane.now (c.loop-i.invariant.kept _ (omega arith)) (omega arith))
    (less_high c.args.size c.loop-i.i c.args.p _ c.piece.result c.args.doubled.now refl c.piece.ensures c.requires.rotation
    c.requires.doubled _ c.args.lane.now (c.loop-i.invariant.kept _ (omega arith)) c.requires.clear)

pub returns : goal.returns
returns g c = grind (arith, written_over)
