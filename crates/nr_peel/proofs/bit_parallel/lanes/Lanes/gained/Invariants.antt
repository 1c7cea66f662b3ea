use Rattle.nr_peel.proofs.{Common.◌≡◌, Common.◌*◌, Common.count_by, Common.range_with_len, UnknownFacts.is_gained}
use Rattle.nr_peel.proofs.bit_parallel.lanes.Lanes.gained.Given as goal

-- the columns before column j are counted
abbrev pub invariant-loop-j : goal.invariant-loop-j
invariant-loop-j g l = l.gained ≡ count_by (is_gained l.self.known.items l.given.items) (range_with_len 0 (l.j * l.lifted.plan.z))
