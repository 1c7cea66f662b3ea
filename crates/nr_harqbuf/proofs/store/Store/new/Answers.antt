use Rattle.nr_harqbuf.proofs.{Common.arith, KeptBitFacts.record-none}
use Rattle.nr_harqbuf.proofs.store.Store.new.Goals as goal

pub returns : goal.returns
returns c = grind (arith, record-none)
