use Rattle.nr_peel.proofs.{Common.nat_tests, Common.arith, LaneMarkFacts.one_marked}
use Rattle.nr_peel.proofs.bit_parallel.learning.one_marked.Goals as goal

pub returns : goal.returns
returns g c = record {
  marks = λ t. grind (arith, nat_tests, one_marked g.row.W c.args.row c.requires t);
  clear = λ t past. grind (arith, nat_tests, one_marked g.row.W c.args.row c.requires t);
}
