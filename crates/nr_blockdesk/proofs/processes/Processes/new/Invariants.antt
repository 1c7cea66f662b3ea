-- None of the processes so far has begun.
use Rattle.nr_blockdesk.proofs.Common.{◌≡◌, None, length, replicate}
use Rattle.nr_blockdesk.proofs.processes.Processes.new.Given as goal

abbrev pub invariant-loop : goal.invariant-loop
invariant-loop l = record {
  places : l.places.items ≡ replicate l.counter None;
  long : length l.places.items ≡ l.counter;
}
