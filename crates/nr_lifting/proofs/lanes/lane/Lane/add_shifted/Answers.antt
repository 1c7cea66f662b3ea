use Rattle.nr_lifting.proofs.Names.{bit-place, sym, ◌∙◌, ◌⊕◌}
use Rattle.nr_lifting.proofs.lanes.lane.Lane.add_shifted.Goals as goal

pub returns-clause-sum : goal.returns-clause-sum
returns-clause-sum g c = λ t below.
    let clear = c.add_lane.ensures.clear g.row.Z c.self.invariant.clear c.words.ensures.clear in
    let old = sym (bit-place g.row.Z c.self.inside.words t c.self.invariant.clear) in
    let gained = c.words.ensures.bits t ∙ c.rotated.ensures.bits t below in
    rw (← c.self.view_is)
    (bit-place g.row.Z c.add_lane.new.sum t clear ∙ c.add_lane.ensures.bits t ∙ (λ i. old i ⊕ gained i))
