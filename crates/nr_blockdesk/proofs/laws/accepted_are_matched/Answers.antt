use Rattle.nr_blockdesk.proofs.SenderFacts.{accepted-matched}
use Rattle.nr_blockdesk.proofs.laws.accepted_are_matched.Goals as goal

pub returns : goal.returns
returns c = accepted-matched c.lengths_are_shared.ensures
