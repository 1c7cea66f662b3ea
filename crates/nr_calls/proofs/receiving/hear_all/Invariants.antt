use Rattle.nr_calls.proofs.Common.{◌≡◌, [], length, verdict, heard_said}
use Rattle.nr_calls.proofs.ReceptionListFacts.{HasHeard}
use Rattle.nr_calls.proofs.receiving.hear_all.Given as goal

-- the result for all transmissions is that for the received ones, followed by those that are left
abbrev pub invariant-loop-tx : goal.invariant-loop-tx
invariant-loop-tx l = record {
  link : l.receiver.link ≡ l.initial.receiver.link;
  has : HasHeard l.receiver.link l.receiver.heard l.outcomes.items (verdict l.last) (length l.fn.txs)
      (heard_said l.initial.receiver.link [] l.fn.txs l.fn.octets) l.later l.places;
}

abbrev pub decreases-loop-tx : goal.decreases-loop-tx
decreases-loop-tx l = length l.later
