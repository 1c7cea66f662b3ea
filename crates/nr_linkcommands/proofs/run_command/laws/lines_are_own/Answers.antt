use Rattle.nr_linkcommands.proofs.RoundTextFacts.{lines_are_own}
use Rattle.nr_linkcommands.proofs.run_command.laws.lines_are_own.Goals as goal

pub returns : goal.returns
returns c = lines_are_own
