use Rattle.nr_drawing.proofs.Common.{IsAmong, bit, bit_at, count_by, length, not, range_with_len, slice_index, ℕ, ◌++◌}
use Rattle.nr_drawing.proofs.Common.{◌+◌, ◌<◌, ◌==◌, ◌≡◌, ◌≤◌}
use Rattle.nr_drawing.specs.Drawing.{drawn_by}
use Rattle.nr_drawing.proofs.side.draw_side.Given as goal

-- the places so far are drawn and counted
abbrev pub invariant-loop-m : goal.invariant-loop-m
invariant-loop-m l = record {
  arrived : (j k : ℕ) → IsAmong l.listed j → k < l.m → (bit_at (slice_index l.arrived k) j == 1)
      ≡ not (bit (drawn_by l.initial.generators l.threshold l.m j) k);
  counted : (j : ℕ) → IsAmong l.listed j → slice_index l.counts j
      ≡ count_by (bit (drawn_by l.initial.generators l.threshold l.m j)) (range_with_len 0 l.m);
  most : (j : ℕ) → j < 64 → slice_index l.counts j ≤ l.m;
  next : (j n : ℕ) → IsAmong l.listed j → drawn_by l.initial.generators l.threshold (l.m + n) j
      ≡ drawn_by l.initial.generators l.threshold l.m j ++ drawn_by l.generators l.threshold n j;
  long : length l.arrived ≡ length l.initial.arrived;
  all : length l.generators ≡ 64;
}
