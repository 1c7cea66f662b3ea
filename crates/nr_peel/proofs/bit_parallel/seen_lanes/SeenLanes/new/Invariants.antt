use Rattle.nr_peel.proofs.Common.{◌≡◌, ℕ, ◌+◌, ◌*◌, ◌<◌, ◌≤◌, is_set, nat_lt, length, slice_index}
use Rattle.nr_peel.proofs.Common.{entries_in, row_of}
use Rattle.nr_peel.proofs.bit_parallel.seen_lanes.SeenLanes.new.Given as goal

-- a row block's entries begin at the end of those of the one before
abbrev pub invariant-loop-i : goal.invariant-loop-i
invariant-loop-i g l = record {
  starts : (h : ℕ) → h < l.i
      → slice_index l.starts h + length (row_of (entries_in l.lifted.plan.graph l.lifted.table.now) h)
      ≡ slice_index l.starts (h + 1);
  first : slice_index l.starts 0 ≡ 0;
  few : slice_index l.starts l.i ≤ 68 * l.i;
  long : length l.starts ≡ 47;
}

-- the words so far mark the rows that exist
abbrev pub invariant-loop-i-2 : goal.invariant-loop-i-2
invariant-loop-i-2 g l = record {
  words : (t : ℕ) → t < 64 * l.i → is_set l.all t ≡ nat_lt t l.lifted.plan.z;
  long : length l.all ≡ g.row.W;
}
