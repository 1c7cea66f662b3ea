use Rattle.nr_drawing.proofs.Common.{from_bool, length, nat_lt, slice_index, ℕ, ◌<◌, ◌≡◌, ◌≤◌}
use Rattle.rand_pcg.specs.{Lcg.increment_of, Lcg.next_state, Pcg.multiplier_64, Pcg.output_xsh_rr}
use Rattle.nr_drawing.proofs.states.draw_marks.Given as goal

-- the states so far are drawn of
abbrev pub invariant-loop-j : goal.invariant-loop-j
invariant-loop-j l = record {
  drawn : (k : ℕ) → k < l.j → slice_index l.marks k
      ≡ from_bool (nat_lt (output_xsh_rr (slice_index l.initial.states k)) l.threshold);
  next : (k : ℕ) → k < l.j → slice_index l.states k
      ≡ next_state 64 multiplier_64 (increment_of 64 54) (slice_index l.initial.states k);
  later : (k : ℕ) → l.j ≤ k → slice_index l.states k ≡ slice_index l.initial.states k;
  long : length l.marks ≡ 64;
  all : length l.states ≡ 64;
}
