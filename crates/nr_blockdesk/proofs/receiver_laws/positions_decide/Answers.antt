use Rattle.nr_blockdesk.proofs.PlacesFacts.{positions-decide}
use Rattle.nr_blockdesk.proofs.receiver_laws.positions_decide.Goals as goal

pub returns : goal.returns
returns c = positions-decide
