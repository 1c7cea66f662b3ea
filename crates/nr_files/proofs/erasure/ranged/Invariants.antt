-- The places of the ranges so far are marked.
use Rattle.nr_files.proofs.Common.{◌≡◌, ℕ, ◌<◌, length, take, list_any, bit, is_within}
use Rattle.nr_files.proofs.erasure.ranged.Given as goal

abbrev pub invariant-loop-range : goal.invariant-loop-range
invariant-loop-range l = record {
  long : length l.marks.items ≡ l.count;
  marked : (m : ℕ) → m < l.count → bit l.marks.items m ≡ list_any (is_within m) (take l.range-index l.ranges);
}
