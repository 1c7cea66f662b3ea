use Rattle.nr_linkcommands.proofs.Common.{arith}
use Rattle.nr_linkcommands.proofs.run_command.slot.new_state.Goals as goal

pub returns-clause-state : goal.returns-clause-state
returns-clause-state c = grind arith
