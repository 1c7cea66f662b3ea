-- The numbers of one cycle through the circular buffer, and the positions that a redundancy version selects.
use Rattle.std.specs.Prelude.{◌≡◌, ℕ, ◌+◌}
use Rattle.nr_ratematch.specs.{inside.Cycles.index_from, Selection.Circular, Selection.place_of}
use Rattle.nr_ratematch.specs.declared.cycle.BufferCycle.{BufferCycle}

-- the position in the codeword of place k of a cycle
abbrev pub position_in : BufferCycle → ℕ → ℕ
position_in cycle k = index_from cycle.front cycle.skip cycle.count cycle.first k + cycle.punctured

-- a cycle gives each position that a redundancy version selects of a buffer
abbrev pub GivesPlaces : BufferCycle → Circular → ℕ → Type 0
GivesPlaces cycle b rv = (k : ℕ) → position_in cycle k ≡ place_of b rv k
