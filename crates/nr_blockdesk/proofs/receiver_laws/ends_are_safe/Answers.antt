use Rattle.nr_blockdesk.proofs.LinkFacts.{ends-safe}
use Rattle.nr_blockdesk.proofs.receiver_laws.ends_are_safe.Goals as goal

pub returns : goal.returns
returns c = ends-safe c.links_are_sound.ensures c.accepted_send_all.ensures c.erasures_are_safe.ensures
