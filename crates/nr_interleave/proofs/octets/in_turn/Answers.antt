use Rattle.nr_interleave.proofs.Common.{◌+◌, ◌*◌, ◌/◌, ◌%◌, ◌++◌, slice_index_or as get_or, arith}
use Rattle.nr_interleave.proofs.Common.{get_or-map-range_with_len}
use Rattle.nr_interleave.proofs.octets.in_turn.Goals as goal

pub returns : goal.returns
returns c = λ p inside.
    get_or-map-range_with_len (λ p. get_or (c.args.low ++ c.args.high) (32 * (p % 2) + p / 2) 0) 0 64 p p 0 inside (omega arith)
