use Rattle.std.proofs.Common.{arith}
use Rattle.std.proofs.lemmas.List.FromFn.{length-map-range_with_len}
use Rattle.nr_interleave.specs.Interleaving.{interleaving_of}
use Rattle.nr_calls.proofs.matching.matched.Goals as goal

pub returns-clause-long : goal.returns-clause-long
unfolding interleaving_of
returns-clause-long c = grind (arith, length-map-range_with_len)
