use Rattle.nr_blockdesk.proofs.PlacesFacts.{places-decide}
use Rattle.nr_blockdesk.proofs.receiver_laws.places_decide.Goals as goal

pub returns : goal.returns
returns c = places-decide c.sent_is_long.ensures c.explained_is_delivered.ensures
