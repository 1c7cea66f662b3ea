use Rattle.std.proofs.Common.{◌≡◌, ◌/◌, flat_map, take}
use Rattle.nr_bitvec.specs.BitList.{bits_of}
use Rattle.nr_blockdesk.specs.Sent.{sent}
use Rattle.nr_calls.specs.Crossing.{tx_of}
use Rattle.nr_calls.specs.Many.{first_rows}
use Rattle.nr_calls.specs.inside.Words.{joined}
use Rattle.nr_calls.proofs.many_sent.send_rows.Given as goal

-- the bits of the blocks so far
abbrev pub invariant-loop-k : goal.invariant-loop-k
invariant-loop-k l = joined l.parts.items
    ≡ flat_map (λ row. flat_map (λ t. sent l.link (tx_of t) (bits_of row)) l.txs)
    (take l.k (first_rows (l.fn.params.a / 8) l.fn.blocks.count l.fn.blocks.octets.now))
