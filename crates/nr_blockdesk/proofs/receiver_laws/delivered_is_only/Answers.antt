use Rattle.nr_blockdesk.proofs.OutcomeFacts.{delivered-only}
use Rattle.nr_blockdesk.proofs.receiver_laws.delivered_is_only.Goals as goal

pub returns : goal.returns
returns c = delivered-only c.one_explains.ensures
