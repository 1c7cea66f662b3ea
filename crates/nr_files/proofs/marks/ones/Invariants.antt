-- The marks of the words so far, and room for the others.
use Rattle.nr_files.proofs.Common.{◌≡◌, ◌+◌, ◌*◌, ◌≤◌, min, replicate, true}
use Rattle.nr_files.proofs.marks.ones.Given as goal

abbrev pub invariant-loop-i : goal.invariant-loop-i
invariant-loop-i l = record {
  so_far : l.marks.items ≡ replicate (min (64 * l.i) l.count) true;
  room : l.count ≤ min (64 * l.i) l.count + l.marks.room;
}
