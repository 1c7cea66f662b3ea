use Rattle.nr_lifting.proofs.Names.{arith, is_set, refl, rules, ◌*◌, ◌∙◌}
use Rattle.nr_lifting.proofs.LaneBitFacts.{counted_all, counted_more, marked-le}
use Rattle.nr_lifting.proofs.lanes.lane_words.lane_count.Goals as goal

pub overflow_add-count : goal.overflow_add-count
overflow_add-count g c = search (rules, counted_more, marked-le)

-- the bits of the next word are counted
pub loop-i-preserved : goal.loop-i-preserved
loop-i-preserved g c = counted_more c.loop-i.i c.loop-i.count _ c.args.lane.now refl (omega arith) c.loop-i.invariant

pub returns : goal.returns
returns g c = record {
  marked = λ n clear. c.loop-i.invariant ∙ counted_all c.loop-i.i n c.args.lane.now (omega arith) clear;
  few = omega (arith, c.loop-i.invariant, marked-le (is_set c.args.lane.now) (64 * c.loop-i.i));
}
