use Rattle.nr_blockdesk.proofs.SenderFacts.{parts-at}
use Rattle.nr_blockdesk.proofs.laws.parts_are_at.Goals as goal

pub returns : goal.returns
returns c = parts-at c.places_have_one_owner.ensures
