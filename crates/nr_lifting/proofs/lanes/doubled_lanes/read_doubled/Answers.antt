use Rattle.nr_lifting.proofs.Names.{arith, length-replicate, place-zeros, refl, ℕ}
use Rattle.nr_lifting.proofs.LaneWordFacts.{written_over, written_more}
use Rattle.nr_lifting.proofs.DoubledWordFacts.{cut_clear, cut_turned}
use Rattle.nr_lifting.proofs.lanes.doubled_lanes.read_doubled.Goals as goal

-- the next word is read
pub loop-i-preserved : goal.loop-i-preserved
loop-i-preserved g c =
    written_more _ _ _ _ _ _ _ c.loop-i.invariant
    (omega (arith, c.loop-i.invariant.long, length-replicate {A = ℕ} g.row.W 0)) refl
    (cut_turned c.args.size c.loop-i.i c.args.p _ c.piece.result c.args.doubled.now refl c.piece.ensures c.requires.rotation
    c.requires.doubled _ c.args.mask.now c.requires.mask refl)
    (λ j _ past. cut_clear c.args.size c.loop-i.i c.args.p _ c.piece.result c.args.doubled.now refl c.piece.ensures
    c.requires.rotation
    c.requires.doubled _ c.args.mask.now c.requires.mask refl (omega arith) j past)

pub returns : goal.returns
returns g c = grind (arith, written_over, place-zeros)
