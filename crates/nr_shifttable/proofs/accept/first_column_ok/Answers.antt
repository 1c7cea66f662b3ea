use Rattle.nr_shifttable.proofs.Common.{first_column_ok}
use Rattle.nr_shifttable.proofs.accept.first_column_ok.Goals as goal

pub returns : goal.returns
unfolding first_column_ok
returns c = cc
