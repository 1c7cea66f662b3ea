use Rattle.nr_shifttable.proofs.KeptItemFacts.{listed-kept}
use Rattle.nr_shifttable.proofs.laws.listed_are_kept.Goals as goal

pub returns : goal.returns
returns c = listed-kept
