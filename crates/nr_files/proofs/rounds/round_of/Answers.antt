use Rattle.nr_files.proofs.Common.{refl, arith, length-drop, nat_tests, take_all, since_fresh}
use Rattle.nr_files.proofs.RoundFacts.{block-turn, start-turn, start-within}
use Rattle.nr_files.proofs.rounds.round_of.Goals as goal

pub loop-index-init : goal.loop-index-init
unfolding since_fresh
loop-index-init c = record { low = omega arith; within = omega arith; round = refl; block = refl }

pub loop-index-preserved : goal.loop-index-preserved
loop-index-preserved c = record {
  low = grind (arith, nat_tests);
  within = grind (arith, start-within);
  round = grind (arith, start-turn);
  block = block-turn _ _ c.loop-index.index c.index-before-index.result _ _ c.loop-index-test.true c.index-before-index.is
      c.next_begun-begun.ensures.block c.loop-index.invariant.block;
}

pub returns-clause-block : goal.returns-clause-block
returns-clause-block c = grind (arith, take_all)

pub returns-clause-transmissions : goal.returns-clause-transmissions
returns-clause-transmissions c = grind (arith, take_all, length-drop)
