use Rattle.nr_linkcommands.proofs.Common.{append_assoc, open_line}
use Rattle.nr_linkcommands.proofs.run_command.lines.open_line.Goals as goal

pub returns : goal.returns
unfolding open_line
returns c = rw (c.into_bytes.ensures.value, c.in_ok-writeln.ensures.bytes, c.new-line.ensures.bytes) (simp append_assoc)
