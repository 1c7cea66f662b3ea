use Rattle.nr_peel.proofs.Common.{arith}
use Rattle.nr_peel.proofs.bit_parallel.sweep.Sweep.go_on.Goals as goal

pub left-progress-requires : goal.left-progress-requires
left-progress-requires g c =
    let lanes = c.propagate.ensures.held.lanes in
    (omega (arith, lanes.words), (lanes, λ p low below. c.propagate.ensures.keeps.known p (c.requires.fillers p low below)))
