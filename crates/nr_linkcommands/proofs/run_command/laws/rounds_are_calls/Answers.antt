use Rattle.nr_linkcommands.proofs.RoundCallFacts.{rounds_calls}
use Rattle.nr_linkcommands.proofs.run_command.laws.rounds_are_calls.Goals as goal

pub returns : goal.returns
returns c = rounds_calls c.accepted_send_all.ensures
