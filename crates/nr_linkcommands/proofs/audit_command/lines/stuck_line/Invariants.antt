use Rattle.nr_linkcommands.proofs.Common.{flat_map, string_bytes, take, ◌++◌, ◌≡◌, codes, decimal}
use Rattle.nr_linkcommands.specs.AuditLines.{position_word}
use Rattle.nr_linkcommands.proofs.audit_command.lines.stuck_line.Given as goal

-- the words of the positions so far are in the line
abbrev pub invariant-loop-position : goal.invariant-loop-position
invariant-loop-position l = record {
  so_far : string_bytes l.line ≡ codes "stuck " ++ decimal l.fn.number ++ codes " " ++ decimal l.fn.r
      ++ codes " " ++ decimal l.count
      ++ flat_map position_word (take l.position-index l.positions);
}
