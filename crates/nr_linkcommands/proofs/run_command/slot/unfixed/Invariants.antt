use Rattle.nr_linkcommands.proofs.Common.{left, not, range_with_len, ◌≡◌, ◌≤◌, ◌==◌, count_by}
use Rattle.nr_linkcommands.proofs.run_command.slot.unfixed.Given as goal

-- how many of the code blocks so far have a position left
abbrev pub invariant-loop-r : goal.invariant-loop-r
invariant-loop-r l = record {
  so_far : l.count ≡ count_by (λ r. not (left l.receiver.link l.receiver.heard r == 0)) (range_with_len 0 l.r);
  few : l.count ≤ l.r;
}
