use Rattle.nr_calls.proofs.Common.{◌∙◌, ap, arith, length-map, length-map-range_with_len}
use Rattle.nr_interleave.specs.Interleaving.{interleaving_of}
use Rattle.nr_calls.proofs.stages.interleaved.Goals as goal

pub returns-clause-bits : goal.returns-clause-bits
returns-clause-bits c = c.in_ok-spread.ensures ∙ ap (interleaving_of c.args.qm) c.in_ok-bits.ensures

pub returns-clause-long : goal.returns-clause-long
unfolding interleaving_of
returns-clause-long c = grind (arith, length-map, length-map-range_with_len)
