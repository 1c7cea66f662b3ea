-- The place of the joined bits is after the code blocks so far.
use Rattle.std.proofs.Common.{◌≡◌, ◌+◌, sum, take}
use Rattle.nr_cbconcat.proofs.owner.Given as goal

abbrev pub invariant-loop-r : goal.invariant-loop-r
invariant-loop-r l = l.m ≡ sum (take l.r l.lengths) + l.place
