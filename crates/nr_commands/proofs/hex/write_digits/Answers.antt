use Rattle.nr_commands.proofs.{Common.arith, Common.refl, Common.first_digits, HexFacts.stored-more}
use Rattle.nr_commands.proofs.hex.write_digits.Goals as goal

pub loop-i-init : goal.loop-i-init
unfolding first_digits
loop-i-init c = refl

pub loop-i-preserved : goal.loop-i-preserved
loop-i-preserved c = grind (arith, stored-more)
