use Rattle.nr_blockdesk.proofs.KeptFacts.{records-continue}
use Rattle.nr_blockdesk.proofs.receiver_laws.records_continue.Goals as goal

pub returns : goal.returns
returns c = records-continue c.accepted_are_matched.ensures c.sent_bits_are_at.ensures c.record_continues.ensures
