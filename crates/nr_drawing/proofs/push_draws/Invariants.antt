-- The marks so far, followed by those of the words that are left, are all; and there is room for them.
use Rattle.std.proofs.Common.{min}
use Rattle.nr_drawing.proofs.Common.{marks_drawn, ◌*◌, ◌++◌, ◌+◌, ◌-◌, ◌≡◌, ◌≤◌}
use Rattle.nr_drawing.proofs.push_draws.Given as goal

abbrev pub invariant-loop-i : goal.invariant-loop-i
invariant-loop-i l = record {
  so_far : l.marks.items ++ marks_drawn l.threshold (l.count - min (64 * l.i) l.count) l.generator ≡ l.fn.marks.items
      ++ marks_drawn l.threshold l.count l.fn.generator;
  room : l.count ≤ min (64 * l.i) l.count + l.marks.room;
}
