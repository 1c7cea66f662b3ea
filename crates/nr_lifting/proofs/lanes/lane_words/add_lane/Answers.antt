use Rattle.nr_lifting.proofs.Names.{arith, refl}
use Rattle.nr_lifting.proofs.LaneBitFacts.{made_next, added_all, added_bit, added_clear}
use Rattle.nr_lifting.proofs.lanes.lane_words.add_lane.Goals as goal

-- the next word is made
pub loop-i-preserved : goal.loop-i-preserved
loop-i-preserved g c = made_next _ _ _ _ _ _ c.loop-i.invariant (omega arith) refl
    (λ j short. added_bit _ _ c.loop-i.i j _ _ (c.loop-i.invariant.kept c.loop-i.i (omega arith)) refl short)

pub returns : goal.returns
returns g c = record {
  bits = added_all c.loop-i.i c.loop-i.sum _ _ (omega arith) c.loop-i.invariant;
  clear = added_clear c.loop-i.i c.loop-i.sum _ _ (omega arith) c.loop-i.invariant;
}
