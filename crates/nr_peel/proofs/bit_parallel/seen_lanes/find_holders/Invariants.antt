use Rattle.nr_peel.proofs.Common.{◌≡◌, ℕ, ◌<◌, All, length, take, entries_in, row_of}
use Rattle.nr_peel.proofs.SeenLaneFacts.{is_held}
use Rattle.nr_peel.proofs.bit_parallel.seen_lanes.find_holders.Given as goal

-- the row blocks so far are marked at all their columns
abbrev pub invariant-loop-i : goal.invariant-loop-i
invariant-loop-i l = record {
  held : (h : ℕ) → h < l.i → All (is_held l.holders h) (row_of (entries_in l.lifted.plan.graph l.lifted.table.now) h);
  long : length l.holders ≡ 68;
}

-- and this one at those of its entries so far
abbrev pub invariant-loop-entry : goal.invariant-loop-entry
invariant-loop-entry l = record {
  held : (h : ℕ) → h < l.i → All (is_held l.holders h) (row_of (entries_in l.lifted.plan.graph l.lifted.table.now) h);
  here : All (is_held l.holders l.i) (take l.entry-index (row_of (entries_in l.lifted.plan.graph l.lifted.table.now) l.i));
  long : length l.holders ≡ 68;
}
