use Rattle.nr_peel.proofs.Common.{◌≡◌, ◌*◌, left_of}
use Rattle.nr_peel.proofs.bit_parallel.lanes.Lanes.left.Given as goal

-- the columns before column j are counted
abbrev pub invariant-loop-j : goal.invariant-loop-j
invariant-loop-j g l = l.left ≡ left_of (l.j * l.lifted.plan.z) l.self.known.items
