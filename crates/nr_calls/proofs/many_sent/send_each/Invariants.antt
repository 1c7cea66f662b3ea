use Rattle.std.proofs.Common.{◌≡◌, ◌++◌, flat_map, take}
use Rattle.nr_blockdesk.specs.Sent.{sent}
use Rattle.nr_calls.specs.Crossing.{tx_of}
use Rattle.nr_calls.specs.inside.Words.{joined}
use Rattle.nr_calls.proofs.many_sent.send_each.Given as goal

-- the bits of the transmissions so far
abbrev pub invariant-loop-tx : goal.invariant-loop-tx
invariant-loop-tx l = joined l.parts.items
    ≡ joined l.initial.parts.items ++ flat_map (λ t. sent l.sender.link (tx_of t) l.sender.block) (take l.tx-index l.txs)
