use Rattle.nr_lifting.proofs.Names.{ap, bit-place, sym, ◌%◌, ◌==◌, ◌∙◌}
use Rattle.nr_lifting.proofs.lanes.lane.Lane.put_doubled.Goals as goal

pub returns-clause-doubled : goal.returns-clause-doubled
returns-clause-doubled g c = λ t lt.
    rw (← c.self.view_is) (ap (λ n. n == 1) (c.put_twice.ensures.doubled t lt)
    ∙ sym (bit-place g.row.Z c.self.inside.words (t % g.row.Z) c.self.invariant.clear))
