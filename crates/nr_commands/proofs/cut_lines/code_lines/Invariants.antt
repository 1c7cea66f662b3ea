use Rattle.nr_commands.proofs.Common.{◌≡◌, flat_map, range_with_len, numbers, code_bits, code_line}
use Rattle.nr_commands.proofs.cut_lines.code_lines.Given as goal

-- the lines of the code blocks so far
abbrev pub invariant-loop-r : goal.invariant-loop-r
invariant-loop-r l =
    l.lines.items ≡ flat_map (λ r. code_line l.number r (code_bits (numbers l.plan) l.bits.items r)) (range_with_len 0 l.r)
