use Rattle.nr_peel.proofs.Common.{◌≡◌, false, bit, length, lifted_checks, IsSwept, NoneLoneBut}
use Rattle.nr_peel.proofs.slices.sweep.Given as goal

-- the rows of blocks so far are visited
abbrev pub invariant-loop-i : goal.invariant-loop-i
invariant-loop-i l = record {
  swept : IsSwept (lifted_checks l.lifted) l.again l.initial.known l.known;
  none : l.again ≡ false → NoneLoneBut (lifted_checks l.lifted) (bit l.left_out) l.initial.known l.i;
  long : length l.known ≡ length l.initial.known;
  some_long : length l.some ≡ length l.initial.some;
  more_long : length l.more ≡ length l.initial.more;
}
