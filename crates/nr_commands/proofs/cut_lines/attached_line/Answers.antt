use Rattle.nr_commands.proofs.Common.{arith, append_assoc, string_bytes, attached_line}
use Rattle.nr_commands.proofs.WrittenLemmas.{if_ok-items}
use Rattle.nr_commands.proofs.cut_lines.attached_line.Goals as goal

pub returns : goal.returns
unfolding attached_line
returns c = grind (arith, string_bytes, append_assoc, if_ok-items)
