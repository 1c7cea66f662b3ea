use Rattle.nr_streams.proofs.{Common.arith, WrittenFacts.with_text-rest}
use Rattle.nr_streams.proofs.sink.put_all.Goals as goal

pub loop-at-preserved : goal.loop-at-preserved
loop-at-preserved g c = grind (arith, with_text-rest)
