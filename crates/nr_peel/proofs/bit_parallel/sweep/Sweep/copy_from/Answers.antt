use Rattle.nr_peel.proofs.Common.{arith, sym, ◌∙◌}
use Rattle.nr_peel.proofs.CopyFacts.{sweep_serves}
use Rattle.nr_peel.proofs.bit_parallel.sweep.Sweep.copy_from.Goals as goal

-- both sweeps are of one code
pub copy_from-requires : goal.copy_from-requires
copy_from-requires g c =
    let own = c.requires.1.1 in
    let other = c.requires.2.1 in
    (omega (arith, own.lanes.words), (c.requires.0, own.lanes, other.lanes))

pub copy_from-requires-2 : goal.copy_from-requires-2
copy_from-requires-2 g c =
    let own = c.requires.1.1 in
    let other = c.requires.2.1 in (
      omega (arith, own.lanes.words),
      (own.counts_lanes ∙ sym other.counts_lanes, own.counts_long ∙ sym other.counts_long),
    )

pub returns : goal.returns
returns g c = sweep_serves c.args.from.now _ c.copy_from.ensures.known c.copy_from.ensures.bits c.copy_from.ensures.seen
    c.copy_from-2.ensures
