use Rattle.nr_commands.proofs.{Common.append_assoc, Common.arith, HexFacts.hex_cut}
use Rattle.nr_commands.proofs.hex.push_hex.Goals as goal

pub returns : goal.returns
returns c = grind (arith, append_assoc, hex_cut)
