use Rattle.nr_ldpcenc.proofs.Common.{third_of, core_rotation, ◌∙◌}
use Rattle.nr_ldpcenc.proofs.solver.rotation_of.Goals as goal

pub returns : goal.returns
unfolding core_rotation
returns c = c.third_value.ensures
    ∙ (λ i. third_of (c.first_value-first.ensures i) (c.middle_value-middle.ensures i) (c.first_value-last.ensures i))
