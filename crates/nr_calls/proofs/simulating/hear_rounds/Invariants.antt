use Rattle.nr_calls.proofs.Common.{◌≡◌, ◌-◌, ◌*◌, ◌≤◌, Bool, List, drop, length, IsBlock, simulation_of}
use Rattle.nr_calls.proofs.Common.{drawn_round, simulated}
use Rattle.nr_calls.proofs.simulating.hear_rounds.Given as goal

-- the rounds so far, and the seeds of those that are left
abbrev pub invariant-batches : goal.invariant-batches
invariant-batches l = record {
  so_far : (block : List Bool) → IsBlock l.link block
      → simulation_of l.rounds ≡ simulated l.link block (drawn_round l.txs l.thresholds l.seeds) (length l.txs) l.done;
  within : l.done ≤ l.room.delivered;
  left : l.later ≡ drop (l.done * length l.txs) l.seeds;
  long : length l.later ≡ (l.room.delivered - l.done) * length l.txs;
}

abbrev pub decreases-batches : goal.decreases-batches
decreases-batches l = l.room.delivered - l.done
