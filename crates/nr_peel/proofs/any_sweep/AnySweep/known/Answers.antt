use Rattle.nr_peel.proofs.Common.{arith, nat_tests, shr_and_one}
use Rattle.nr_peel.proofs.any_sweep.AnySweep.known.Goals as goal

pub returns-else-known_from-eq1 : goal.returns-else-known_from-eq1
returns-else-known_from-eq1 c =
    grind (
      arith,
      nat_tests,
      shr_and_one c.known_from.result.0 0,
      c.if-known_from-eq1.false,
      c.known_from.ensures.known 0 c.known_from.ensures.some,
    )
