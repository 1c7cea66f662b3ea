use Rattle.nr_drawing.proofs.Common.{bit, bit_at, count_by, length, marks_drawn, not, range_with_len, slice_index, ℕ, ◌++◌}
use Rattle.nr_drawing.proofs.Common.{◌+◌, ◌<◌, ◌==◌, ◌≡◌, ◌≤◌}
use Rattle.nr_drawing.specs.{Drawing.drawn_by, inside.Streams.on_stream}
use Rattle.nr_drawing.proofs.states.draw_all.Given as goal

-- the places so far are drawn and counted
abbrev pub invariant-loop-m : goal.invariant-loop-m
invariant-loop-m l = record {
  arrived : (j k : ℕ) → j < 64 → k < l.m → (bit_at (slice_index l.arrived k) j == 1)
      ≡ not (bit (drawn_by l.initial.generators l.threshold l.m j) k);
  counted : (j : ℕ) → j < 64 → slice_index l.counts j
      ≡ count_by (bit (drawn_by l.initial.generators l.threshold l.m j)) (range_with_len 0 l.m);
  most : (j : ℕ) → j < 64 → slice_index l.counts j ≤ l.m;
  next : (j n : ℕ) → j < 64 → drawn_by l.initial.generators l.threshold (l.m + n) j
      ≡ drawn_by l.initial.generators l.threshold l.m j ++ marks_drawn l.threshold n (on_stream (slice_index l.states j));
  long : length l.arrived ≡ length l.initial.arrived;
  all : length l.generators ≡ 64;
}
