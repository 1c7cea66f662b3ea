use Rattle.nr_lifting.proofs.Names.{is_set, ◌*◌, ◌≡◌, marked_count}
use Rattle.nr_lifting.proofs.lanes.lane_words.lane_count.Given as goal

-- the bits of the words before word i are counted
abbrev pub invariant-loop-i : goal.invariant-loop-i
invariant-loop-i g l = l.count ≡ marked_count (is_set l.lane) (64 * l.i)
