use Rattle.nr_calls.proofs.{Common.arith, OutcomeListFacts.lefts_more}
use Rattle.nr_calls.proofs.receiving.left_in.Goals as goal

pub loop-r-preserved : goal.loop-r-preserved
loop-r-preserved c = record {
  so_far = lefts_more c.args.receiver.now.link c.args.receiver.now.heard c.loop-r.r c.left.result c.loop-r.left.items
      c.push_reserved.new.self.items
      c.loop-r.invariant.so_far c.push_reserved.ensures.items c.left.ensures;
  room = omega arith;
}
