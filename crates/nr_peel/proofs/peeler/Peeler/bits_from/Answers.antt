use Rattle.nr_peel.proofs.{Common.◌+◌, Common.◌∙◌, SweepViewFacts.any_bit, SweepViewFacts.any_peeled}
use Rattle.nr_peel.proofs.peeler.Peeler.bits_from.Goals as goal

pub returns-clause-peeled : goal.returns-clause-peeled
returns-clause-peeled g c = any_peeled _ _ _ _ c.self.view_is c.self.invariant.0

pub returns-clause-bits : goal.returns-clause-bits
returns-clause-bits g c =
    rw (← c.self.view_is)
    (λ j below. c.bits_from-word.ensures.bits j below ∙ any_bit _ _ _ c.self.invariant.0 (c.args.pos + j))
