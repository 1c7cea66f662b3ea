use Rattle.nr_lifting.proofs.Names.{min, place, ◌%◌, ◌*◌, ◌+◌, ◌-◌}
use Rattle.nr_lifting.proofs.LaneBitFacts.{IsMade}
use Rattle.nr_lifting.proofs.lanes.planes.fall.Given as goal

-- the words before word 2k have fallen
abbrev pub invariant-loop-k : goal.invariant-loop-k
invariant-loop-k g l = record {
  falls : IsMade (2 * l.k) (λ t. (place l.initial.plane t + place l.lane t) % 2) l.plane l.initial.plane;
  borrows : IsMade (2 * l.k) (λ t. min (place l.lane t) (1 - place l.initial.plane t)) l.left l.initial.left;
}
