use Rattle.nr_linkcommands.proofs.Common.{audit_line, flat_map, range_with_len, ◌++◌, ◌-◌, ◌≡◌, audit_block}
use Rattle.nr_linkcommands.proofs.RunTextFacts.{IsLeft}
use Rattle.nr_linkcommands.proofs.audit_command.write_codes.Given as goal

-- the lines of the code blocks so far are written, and no put failed
abbrev pub invariant-loop-r : goal.invariant-loop-r
invariant-loop-r g l = record {
  lines : IsLeft (g.O.Sink.written l.fn.out) (g.O.Sink.written l.out)
      (flat_map (λ r. l.head ++ audit_line l.number l.receiver.link l.receiver.heard r)
      (range_with_len l.r (l.receiver.link.plan.c - l.r)))
      (audit_block l.head l.number l.receiver.link l.receiver.heard);
  sound : g.O.Sink.failures l.out ≡ g.O.Sink.failures l.fn.out;
}
