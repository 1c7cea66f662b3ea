use Rattle.nr_files.proofs.Common.{◌≡◌, ◌*◌, take, octets_of_digits}
use Rattle.nr_files.proofs.blocks.read_digits.Given as goal

-- the sixteens of octets so far
abbrev pub invariant-loop-i : goal.invariant-loop-i
invariant-loop-i l = take (16 * l.i) l.octets ≡ take (16 * l.i) (octets_of_digits l.line)

-- the octets so far
abbrev pub invariant-loop-i-2 : goal.invariant-loop-i-2
invariant-loop-i-2 l = take l.i l.octets ≡ take l.i (octets_of_digits l.line)
