use Rattle.nr_lifting.proofs.{Names.length, Names.◌≤◌, CountViewFacts.AreAlike}
use Rattle.std.specs.Prelude.{vec_capacity}
use Rattle.nr_lifting.proofs.lanes.bit_sliced_counts.BitSlicedCounts.new.Given as goal

-- the blocks so far are made, and there is room for the others
abbrev pub invariant-loop-n : goal.invariant-loop-n
invariant-loop-n g l = record {
  made : AreAlike l.blocks.items l.counts l.n-index;
  room : length l.counts ≤ vec_capacity l.blocks;
}
