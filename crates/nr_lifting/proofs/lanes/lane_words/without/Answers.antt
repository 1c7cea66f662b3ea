use Rattle.nr_lifting.proofs.Names.{arith, length-replicate, refl, rules, ℕ}
use Rattle.nr_lifting.proofs.LaneBitFacts.{made_next, without_all, without_bit, without_clear}
use Rattle.nr_lifting.proofs.lanes.lane_words.without.Goals as goal

-- the next word is made
pub loop-i-preserved : goal.loop-i-preserved
loop-i-preserved g c = made_next _ _ _ _ _ _ c.loop-i.invariant (omega (arith, length-replicate {A = ℕ})) refl
    (λ j short. without_bit _ _ c.loop-i.i j _ _ refl refl (search rules) short)

pub returns : goal.returns
returns g c = record {
  bits = without_all c.loop-i.i _ c.loop-i.rest _ _ (omega arith) c.loop-i.invariant;
  clear = without_clear c.loop-i.i _ c.loop-i.rest _ _ (omega arith) c.loop-i.invariant;
}
