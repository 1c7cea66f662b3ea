-- The lines of the code blocks so far, and those of the rest, are all.
use Rattle.nr_linkcommands.proofs.Common.{flat_map, left, left_line, range_with_len, string_bytes, ◌++◌, ◌-◌, ◌≡◌}
use Rattle.nr_linkcommands.proofs.Common.{left_lines}
use Rattle.nr_linkcommands.proofs.run_command.lines.left_lines.Given as goal

abbrev pub invariant-loop-r : goal.invariant-loop-r
invariant-loop-r l =
    string_bytes l.lines
    ++ flat_map (λ r. left_line l.transmission.number l.transmission.block r (left l.receiver.link l.receiver.heard r))
    (range_with_len l.r-counter (l.receiver.link.plan.c - l.r-counter))
    ≡ left_lines l.transmission.number l.transmission.block l.receiver.link l.receiver.heard
