use Rattle.nr_linkcommands.proofs.ErasureSafetyFacts.{runs_safe}
use Rattle.nr_linkcommands.proofs.run_command.laws.runs_are_safe.Goals as goal

pub returns : goal.returns
returns c = runs_safe c.erasures_alone_are_safe.ensures
