use Rattle.nr_calls.proofs.Common.{◌≡◌, ◌<◌, ℕ, get_or, sum, take}
use Rattle.nr_calls.specs.{Placing.index_at, inside.Placings.placing_of}
use Rattle.nr_calls.proofs.placing.write_places.Given as goal

-- the code blocks so far
abbrev pub invariant-loop-r : goal.invariant-loop-r
invariant-loop-r l = record {
  from : l.from ≡ sum (take l.r l.placed.lengths.items);
  each : (m : ℕ) → m < l.from → get_or l.out m 0 ≡ index_at (placing_of l.placed) m;
}
