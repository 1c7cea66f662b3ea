use Rattle.nr_calls.proofs.Common.{arith, length-map-range_with_len}
use Rattle.nr_ratematch.specs.Selection.{selection_of}
use Rattle.nr_calls.proofs.stages.selected.Goals as goal

pub returns-clause-long : goal.returns-clause-long
unfolding selection_of
returns-clause-long c = grind (arith, length-map-range_with_len)
