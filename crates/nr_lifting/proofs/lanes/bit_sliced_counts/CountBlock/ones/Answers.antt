use Rattle.nr_lifting.proofs.{Names.arith, Names.nat_tests, PlaneLaneFacts.number_small}
use Rattle.nr_lifting.proofs.lanes.bit_sliced_counts.CountBlock.ones.Goals as goal

-- A count is what the planes say minus `less`. So it is one if they say `less + 1`, which fits an octet.
pub returns : goal.returns
returns g c = record {
  bits = λ t. grind (
    arith,
    nat_tests,
    c.equal_to.ensures.bits t,
    c.saturating_add.ensures,
    number_small c.args.self.now.planes t (omega (arith, c.requires.planes)),
  );
  clear = c.equal_to.ensures.clear;
}
