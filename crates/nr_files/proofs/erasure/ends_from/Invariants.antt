use Rattle.nr_files.proofs.Common.{◌≡◌, ℕ, ◌<◌, get_or, length, take, begins_at, furthest}
use Rattle.nr_files.proofs.erasure.ends_from.Given as goal

-- how far the ranges so far reach, for each place that they begin at
abbrev pub invariant-loop-range : goal.invariant-loop-range
invariant-loop-range l = record {
  len : length l.ends.items ≡ l.count;
  ends : (m : ℕ) → m < l.count → get_or l.ends.items m 0 ≡ furthest (begins_at m) l.count (take l.range-index l.ranges);
}
