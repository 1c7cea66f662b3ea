use Rattle.nr_commands.proofs.{Common.arith, HexFacts.length-first_digits, HexFacts.room_made, HexFacts.room_filled}
use Rattle.nr_commands.proofs.hex.push_digits.Goals as goal

pub returns : goal.returns
returns c = grind (arith, length-first_digits, room_filled, room_made)
