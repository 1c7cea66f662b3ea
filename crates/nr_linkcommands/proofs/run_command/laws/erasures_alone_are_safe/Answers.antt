use Rattle.nr_linkcommands.proofs.ErasureSafetyFacts.{erasures_alone}
use Rattle.nr_linkcommands.proofs.run_command.laws.erasures_alone_are_safe.Goals as goal

pub returns : goal.returns
returns c = erasures_alone c.links_are_sound.ensures c.accepted_send_all.ensures c.delivered_is_only.ensures
    c.explained_is_delivered.ensures c.explained_never_contradicts.ensures
