use Rattle.nr_commands.proofs.{Common.arith, HexFacts.digits-in_turn, HexFacts.high-small, HexFacts.low-small}
use Rattle.nr_commands.proofs.hex.digits_of_sixteen.Goals as goal

pub sixteen_characters-high-requires : goal.sixteen_characters-high-requires
sixteen_characters-high-requires c = high-small c.args.octets

pub sixteen_characters-low-requires : goal.sixteen_characters-low-requires
sixteen_characters-low-requires c = low-small c.args.octets c.fits-octets.1

pub returns : goal.returns
returns c = grind (arith, digits-in_turn)
