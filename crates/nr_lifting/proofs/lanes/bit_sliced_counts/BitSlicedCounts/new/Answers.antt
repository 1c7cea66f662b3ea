use Rattle.nr_lifting.proofs.{Names.arith, CountViewFacts.alike_all, CountViewFacts.alike_more, CountViewFacts.counts_long}
use Rattle.nr_lifting.proofs.lanes.bit_sliced_counts.BitSlicedCounts.new.Goals as goal

-- one more block
pub loop-n-preserved : goal.loop-n-preserved
loop-n-preserved g c = record {
  made = alike_more _ _ _ _ c.alike.result c.loop-n.invariant.made c.push_reserved.ensures.items c.alike.ensures;
  room = grind arith;
}

pub returns-clause-counts : goal.returns-clause-counts
returns-clause-counts g c = grind (arith, alike_all)

pub returns-clause-long : goal.returns-clause-long
returns-clause-long g c = grind (arith, counts_long)
