use Rattle.nr_commands.proofs.Common.{append_assoc, block_line}
use Rattle.nr_commands.proofs.cut_lines.block_line.Goals as goal

pub returns : goal.returns
unfolding block_line
returns c =
    rw (
      c.into_bytes.ensures.value,
      c.in_ok-writeln.ensures.bytes,
      c.in_ok-write-2.ensures.bytes,
      c.in_ok-write.ensures.bytes,
      c.new-line.ensures.bytes,
    ) (simp append_assoc)
