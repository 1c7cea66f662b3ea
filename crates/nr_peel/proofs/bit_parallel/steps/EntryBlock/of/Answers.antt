use Rattle.nr_peel.proofs.Common.{arith, mul-le-mul_left}
use Rattle.nr_peel.proofs.bit_parallel.steps.EntryBlock.of.Goals as goal

pub invariant_of-result : goal.invariant_of-result
invariant_of-result c = record {
  few = c.requires.few;
  small = c.requires.rotation;
  fits = omega (arith, mul-le-mul_left c.from.result c.requires.few, c.from.ensures);
}
