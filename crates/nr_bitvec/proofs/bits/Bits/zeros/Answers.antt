use Rattle.nr_bitvec.proofs.Common.{nat_tests, common_steps, arith}
use Rattle.nr_bitvec.proofs.JoinedWordFacts.{zeros-packed, zeros-items}
use Rattle.nr_bitvec.proofs.bits.Bits.zeros.Goals as goal

pub invariant_of-result : goal.invariant_of-result
invariant_of-result c = grind (arith, common_steps, nat_tests, zeros-packed)

pub returns : goal.returns
returns c = grind (arith, zeros-items)
