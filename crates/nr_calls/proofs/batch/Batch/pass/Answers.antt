use Rattle.nr_calls.proofs.BatchFacts.{zeros_more}
use Rattle.nr_calls.proofs.batch.Batch.pass.Goals as goal

pub loop-preserved : goal.loop-preserved
loop-preserved c = record {
  left = λ j short.
      zeros_more c.args.self.now.left.items _ _ c.loop.counter j c.in_ok-push.ensures.items (c.loop.invariant.left j short);
  erased = λ j short.
      zeros_more c.args.self.now.erased.items _ _ c.loop.counter j c.in_ok-push-2.ensures.items (c.loop.invariant.erased j short);
  known = c.loop.invariant.known;
  still = c.loop.invariant.still;
}
