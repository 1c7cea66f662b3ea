-- The marks of the words so far, and room for the others.
use Rattle.nr_files.proofs.Common.{◌≡◌, ◌+◌, ◌*◌, ◌≤◌, length, min, take}
use Rattle.nr_files.proofs.marks.packed.Given as goal

abbrev pub invariant-loop-i : goal.invariant-loop-i
invariant-loop-i l = record {
  so_far : l.bits.items ≡ take (min (64 * l.i) l.count) l.marks;
  long : length l.bits.items ≡ min (64 * l.i) l.count;
  room : l.count ≤ length l.bits.items + l.bits.room;
}
