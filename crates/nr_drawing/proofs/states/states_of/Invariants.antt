use Rattle.nr_drawing.proofs.Common.{get_or, length, seeded, slice_index, ℕ, ◌<◌, ◌≡◌}
use Rattle.nr_drawing.specs.inside.Streams.{on_stream}
use Rattle.nr_drawing.proofs.states.states_of.Given as goal

-- the generators so far are on the stream
abbrev pub invariant-loop-j : goal.invariant-loop-j
invariant-loop-j l = record {
  each : (k : ℕ) → k < l.j → get_or l.generators k (seeded 0) ≡ on_stream (slice_index l.states k);
  long : length l.states ≡ 64;
}
