use Rattle.nr_linkcommands.proofs.Common.{ap, ◌++◌}
use Rattle.nr_linkcommands.proofs.audit_command.lines.code_line.Goals as goal

pub returns : goal.returns
returns c = rw (c.into_bytes.ensures.value, c.in_ok-insert_str.ensures.bytes)
    (ap (λ line. c.args.head.now ++ line) c.in_ok-line.ensures)
