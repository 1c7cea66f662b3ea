use Rattle.nr_linkcommands.proofs.Common.{arith, length-append}
use Rattle.nr_linkcommands.proofs.run_command.slot.receive_more.Goals as goal

pub returns : goal.returns
returns c = grind (arith, length-append)
