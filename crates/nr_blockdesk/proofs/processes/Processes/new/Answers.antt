use Rattle.nr_blockdesk.proofs.{Common.rules, CallFacts.new-after}
use Rattle.nr_blockdesk.proofs.processes.Processes.new.Goals as goal

pub returns-clause-after : goal.returns-clause-after
returns-clause-after c = new-after _ (search rules)
