use Rattle.nr_lifting.proofs.Names.{arith, length-replicate, refl, ℕ}
use Rattle.nr_lifting.proofs.LaneWordFacts.{written_clear, written_more}
use Rattle.nr_lifting.proofs.lanes.doubled_words.mask_of.Goals as goal

-- the next word is made
pub loop-i-preserved : goal.loop-i-preserved
loop-i-preserved g c =
    written_more _ _ _ _ _ _ _ c.loop-i.invariant (omega (arith, c.loop-i.invariant.long, length-replicate {A = ℕ} g.row.W 0))
    refl c.mask_word.ensures.low (λ j _ past. c.mask_word.ensures.high j past)

pub returns : goal.returns
returns g c = record {
  set = λ t below. c.loop-i.invariant.done t (omega (arith, below, c.requires)) below;
  clear = written_clear _ _ _ _ _ c.loop-i.invariant (omega (arith, c.loop-i.invariant.long, length-replicate {A = ℕ} g.row.W 0));
}
