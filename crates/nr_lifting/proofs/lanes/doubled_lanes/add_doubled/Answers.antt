use Rattle.nr_lifting.proofs.{Names.arith, Names.refl, DoubledWordFacts.cut_turned, DoubledWordFacts.cut_clear}
use Rattle.nr_lifting.proofs.LaneWordFacts.{written_over, written_more, summed_low, summed_high}
use Rattle.nr_lifting.proofs.lanes.doubled_lanes.add_doubled.Goals as goal

-- the next word gains its places
pub loop-i-preserved : goal.loop-i-preserved
loop-i-preserved g c =
    let is = cut_turned c.args.size c.loop-i.i c.args.p _ c.piece.result c.args.doubled.now refl c.piece.ensures c.requires.rotation
    c.requires.doubled _ c.args.mask.now c.requires.mask refl in
    let none = cut_clear c.args.size c.loop-i.i c.args.p _ c.piece.result c.args.doubled.now refl c.piece.ensures
    c.requires.rotation
    c.requires.doubled _ c.args.mask.now c.requires.mask refl (omega arith) in
    written_more _ _ _ _ _ _ _ c.loop-i.invariant (omega arith) refl
    (summed_low c.args.size c.loop-i.i c.args.p _ _ c.args.sum.now c.args.doubled.now
    (c.loop-i.invariant.kept _ (omega arith)) c.requires.clear is none)
    (summed_high c.args.size c.loop-i.i c.args.p _ _ c.args.sum.now c.args.doubled.now
    (c.loop-i.invariant.kept _ (omega arith)) c.requires.clear is none)

pub returns : goal.returns
returns g c = grind (arith, written_over)
