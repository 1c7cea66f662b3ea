use Rattle.nr_peel.proofs.Common.{◌≡◌, ◌<◌, ℕ, length, slice_index, entries_in, row_of}
use Rattle.nr_peel.proofs.bit_parallel.sweep.degrees.Given as goal

-- the rows so far have their counts
abbrev pub invariant-loop-i : goal.invariant-loop-i
invariant-loop-i l = record {
  counted : (h : ℕ) → h < l.i
      → slice_index l.counts h ≡ length (row_of (entries_in l.lifted.plan.graph l.lifted.table.now) h);
  long : length l.counts ≡ 46;
}
