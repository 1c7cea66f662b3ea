-- The bits so far are in the list, and the next place of the cycle is known.
use Rattle.nr_ratematch.proofs.Common.{◌≡◌, ◌+◌, ◌-◌, ◌%◌, ◌<◌, ◌≤◌, ◌++◌, selection_of}
use Rattle.nr_ratematch.proofs.selection.select_runs.Given as goal

abbrev pub decreases-loop-k : goal.decreases-loop-k
decreases-loop-k l = l.e - l.k

abbrev pub invariant-loop-k : goal.invariant-loop-k
invariant-loop-k l = record {
  taken : l.bits.items ≡ l.initial.bits.items ++ selection_of l.buffer l.word l.rv l.k;
  room : l.bits.room + l.k ≡ l.initial.bits.room;
  here : l.at ≡ (l.cycle.first + l.k % l.cycle.count) % l.cycle.count;
  inside : l.at < l.cycle.count;
  below : l.k ≤ l.e;
}
