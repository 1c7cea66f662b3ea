-- The marks so far, followed by those of the words that are left, are all.
use Rattle.nr_drawing.proofs.Common.{HasNone, low_first, marks_drawn, ℕ, ◌++◌, ◌+◌, ◌-◌, ◌≡◌}
use Rattle.nr_drawing.proofs.draw.Given as goal

abbrev pub invariant-loop-j : goal.invariant-loop-j
invariant-loop-j l = record {
  told : (n : ℕ) → low_first l.j l.word ++ marks_drawn l.threshold (l.count - l.j + n) l.generator
      ≡ marks_drawn l.threshold (l.count + n) l.fn.generator;
  none : HasNone l.j l.word;
}
