use Rattle.nr_commands.proofs.Common.{append_assoc, string_bytes, arith, code_line}
use Rattle.nr_commands.proofs.cut_lines.push_code_line.Goals as goal

pub returns : goal.returns
unfolding code_line
returns c = grind (arith, string_bytes, append_assoc)
