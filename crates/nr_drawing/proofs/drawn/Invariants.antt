-- Each list has the marks so far, which those of the words that are left complete; and it has room for them.
use Rattle.nr_drawing.proofs.Common.{length, marks_drawn, ℕ, ◌*◌, ◌++◌, ◌+◌, ◌-◌, ◌≡◌, ◌≤◌}
use Rattle.nr_drawing.proofs.drawn.Given as goal

abbrev pub invariant-loop : goal.invariant-loop
invariant-loop l = record {
  early : l.marks.items ++ marks_drawn l.threshold (64 * (l.half - l.counter)) l.early
      ≡ marks_drawn l.threshold (64 * l.half) l.initial.early;
  late : (n : ℕ) → l.behind.items ++ marks_drawn l.threshold (64 * (l.half - l.counter) + n) l.late
      ≡ marks_drawn l.threshold (64 * l.half + n) l.initial.late;
  long : length l.marks.items ≡ 64 * l.counter;
  long_behind : length l.behind.items ≡ 64 * l.counter;
  room : l.count ≤ length l.marks.items + l.marks.room;
  room_behind : 64 * l.half ≤ length l.behind.items + l.behind.room;
}
