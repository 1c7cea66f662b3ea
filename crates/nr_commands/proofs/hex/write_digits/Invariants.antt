use Rattle.nr_commands.proofs.Common.{◌≡◌, ◌*◌, take, first_digits}
use Rattle.nr_commands.proofs.hex.write_digits.Given as goal

-- the digits of the words so far
abbrev pub invariant-loop-i : goal.invariant-loop-i
invariant-loop-i l = take (32 * l.i) l.digits ≡ first_digits (32 * l.i) l.bits.items
