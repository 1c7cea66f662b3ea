use Rattle.nr_linkcommands.proofs.Common.{append_assoc, arith, sent_line, if_ok-items}
use Rattle.std.proofs.Common.{string_bytes}
use Rattle.nr_linkcommands.proofs.send_command.sent_line.Goals as goal

pub returns : goal.returns
unfolding sent_line
returns c = grind (arith, string_bytes, append_assoc, if_ok-items)
