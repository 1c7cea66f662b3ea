use Rattle.nr_calls.proofs.Common.{◌≡◌, [], length, verdict, heard_said}
use Rattle.nr_calls.proofs.ReceptionListFacts.{HasHeard}
use Rattle.nr_calls.specs.Packed.{unpacked}
use Rattle.nr_calls.proofs.packed.hear_all_packed.Given as goal

-- the result for all transmissions is that for the received ones, followed by those that are left
abbrev pub invariant-loop-tx : goal.invariant-loop-tx
invariant-loop-tx l = record {
  link : l.receiver.link ≡ l.initial.receiver.link;
  has : HasHeard l.receiver.link l.receiver.heard l.outcomes.items (verdict l.last) (length l.fn.txs)
      (heard_said l.initial.receiver.link [] l.fn.txs (unpacked l.fn.txs l.fn.bits l.fn.known)) l.later
      (unpacked l.later l.bits_left l.known_left);
}

abbrev pub decreases-loop-tx : goal.decreases-loop-tx
decreases-loop-tx l = length l.later
