use Rattle.nr_lifting.proofs.{Names.List, Names.[], Names.place, Names.ℕ, PlaneCountFacts.PlanesBorrow}
use Rattle.nr_lifting.proofs.lanes.planes.lower_words.Given as goal

-- the planes before plane b have fallen
abbrev pub invariant-loop-b : goal.invariant-loop-b
invariant-loop-b g l = PlanesBorrow (List ℕ) place [] l.size l.b l.planes l.initial.planes (place l.lane) (place l.left)
