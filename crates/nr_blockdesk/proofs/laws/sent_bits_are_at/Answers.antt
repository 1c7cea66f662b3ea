use Rattle.nr_blockdesk.proofs.SenderFacts.{sent-at}
use Rattle.nr_blockdesk.proofs.laws.sent_bits_are_at.Goals as goal

pub returns : goal.returns
returns c = sent-at c.places_have_one_owner.ensures c.places_are_sent.ensures c.seats_are_seating.ensures
