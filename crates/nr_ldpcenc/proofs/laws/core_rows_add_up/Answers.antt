use Rattle.nr_ldpcenc.proofs.CoreRowFacts.{core_rows-end}
use Rattle.nr_ldpcenc.proofs.laws.core_rows_add_up.Goals as goal

pub returns : goal.returns
returns c = core_rows-end
