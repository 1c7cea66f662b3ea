use Rattle.nr_lifting.proofs.Names.{bit-place, sym}
use Rattle.nr_lifting.proofs.lanes.lane.Lane.words.Goals as goal

pub returns-clause-bits : goal.returns-clause-bits
returns-clause-bits g c = λ t. rw (← c.self.view_is) (sym (bit-place g.row.Z c.self.inside.words t c.self.invariant.clear))
