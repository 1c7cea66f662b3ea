use Rattle.nr_harqbuf.proofs.KeptBitFacts.{kept-again}
use Rattle.nr_harqbuf.proofs.laws.kept_again.Goals as goal

pub returns : goal.returns
returns c = kept-again
