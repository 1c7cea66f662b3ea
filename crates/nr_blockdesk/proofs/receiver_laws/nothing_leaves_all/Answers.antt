use Rattle.nr_blockdesk.proofs.OutcomeFacts.{nothing-leaves_all}
use Rattle.nr_blockdesk.proofs.receiver_laws.nothing_leaves_all.Goals as goal

pub returns : goal.returns
returns c = nothing-leaves_all c.nothing_heard_fixes_nothing.ensures c.plans_are_sound.ensures
