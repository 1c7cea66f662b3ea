use Rattle.nr_calls.proofs.Common.{◌≡◌, ◌*◌, ◌^◌, ◌≤◌, take}
use Rattle.nr_calls.specs.Many.{places_sent}
use Rattle.nr_calls.proofs.many.places_sent.Given as goal

-- the places of the transmissions so far
abbrev pub invariant-loop-tx : goal.invariant-loop-tx
invariant-loop-tx l = (l.places ≡ places_sent (take l.tx-index l.txs)) × (l.places ≤ l.tx-index * 2 ^ 32)
