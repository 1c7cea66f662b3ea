use Rattle.nr_shifttable.proofs.ParityFaultFacts.{extension-is_named}
use Rattle.nr_shifttable.proofs.laws.extension_named.Goals as goal

pub returns : goal.returns
returns c = extension-is_named
