use Rattle.nr_blockdesk.proofs.PlacesFacts.{erasures-decide}
use Rattle.nr_blockdesk.proofs.receiver_laws.erasures_decide.Goals as goal

pub returns : goal.returns
returns c = erasures-decide
