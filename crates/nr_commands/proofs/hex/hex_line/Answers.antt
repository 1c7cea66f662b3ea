use Rattle.nr_commands.proofs.Common.{arith, string_bytes}
use Rattle.nr_commands.proofs.hex.hex_line.Goals as goal

pub returns : goal.returns
returns c = grind (arith, string_bytes)
