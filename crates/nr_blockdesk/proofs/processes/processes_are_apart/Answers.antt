use Rattle.nr_blockdesk.proofs.CallFacts.{calls-apart}
use Rattle.nr_blockdesk.proofs.processes.processes_are_apart.Goals as goal

pub returns : goal.returns
returns c = calls-apart
