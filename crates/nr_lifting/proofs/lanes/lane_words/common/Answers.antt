use Rattle.nr_lifting.proofs.Names.{arith, length-replicate, refl, ℕ}
use Rattle.nr_lifting.proofs.LaneBitFacts.{made_next, common_all, common_bit, common_clear}
use Rattle.nr_lifting.proofs.lanes.lane_words.common.Goals as goal

-- the next word is made
pub loop-i-preserved : goal.loop-i-preserved
loop-i-preserved g c = made_next _ _ _ _ _ _ c.loop-i.invariant (omega (arith, length-replicate {A = ℕ})) refl
    (λ j short. common_bit _ _ c.loop-i.i j _ _ refl refl short)

pub returns : goal.returns
returns g c = record {
  bits = common_all c.loop-i.i _ c.loop-i.both _ _ (omega arith) c.loop-i.invariant;
  clear = common_clear c.loop-i.i _ c.loop-i.both _ _ (omega arith) c.loop-i.invariant;
}
