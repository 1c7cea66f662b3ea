use Rattle.nr_ratematch.proofs.LengthLemmas.{lengths-shared}
use Rattle.nr_ratematch.proofs.sharing.lengths_are_shared.Goals as goal

pub returns : goal.returns
returns c = lengths-shared
