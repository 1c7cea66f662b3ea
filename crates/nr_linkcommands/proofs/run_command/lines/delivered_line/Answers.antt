use Rattle.nr_linkcommands.proofs.Common.{append_assoc, arith, delivered_line, if_ok-items}
use Rattle.std.proofs.Common.{string_bytes}
use Rattle.nr_linkcommands.proofs.run_command.lines.delivered_line.Goals as goal

pub returns : goal.returns
unfolding delivered_line
returns c = grind (arith, string_bytes, append_assoc, if_ok-items)
