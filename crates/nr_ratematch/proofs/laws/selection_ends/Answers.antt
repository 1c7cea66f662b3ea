use Rattle.nr_ratematch.proofs.BufferFacts.{live-some}
use Rattle.nr_ratematch.proofs.laws.selection_ends.Goals as goal

pub returns : goal.returns
returns c = live-some
