use Rattle.nr_blockdesk.proofs.OutcomeExactFacts.{exact-one}
use Rattle.nr_blockdesk.proofs.receiver_laws.outcomes_are_exact.Goals as goal

pub returns : goal.returns
returns c = exact-one c.accepted_are_matched.ensures c.sent_bits_are_at.ensures c.delivered_is_only.ensures
    c.explained_is_delivered.ensures
