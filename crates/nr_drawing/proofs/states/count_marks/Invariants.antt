use Rattle.nr_drawing.proofs.Common.{slice_index, ℕ, ◌+◌, ◌<◌, ◌≡◌, ◌≤◌}
use Rattle.nr_drawing.proofs.states.count_marks.Given as goal

-- the marks so far are counted
abbrev pub invariant-loop-j : goal.invariant-loop-j
invariant-loop-j l = record {
  done : (k : ℕ) → k < l.j → slice_index l.counts k ≡ slice_index l.initial.counts k + slice_index l.marks k;
  later : (k : ℕ) → l.j ≤ k → slice_index l.counts k ≡ slice_index l.initial.counts k;
}
