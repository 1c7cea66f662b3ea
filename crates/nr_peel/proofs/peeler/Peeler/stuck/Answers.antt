use Rattle.nr_peel.proofs.{Common.ap, Common.Peeling, LearningFacts.any_stuck, SweepViewFacts.any_peeled}
use Rattle.nr_peel.proofs.peeler.Peeler.stuck.Goals as goal

pub returns-clause-largest : goal.returns-clause-largest
returns-clause-largest c = rw (c.in_ok-positions.ensures, ap (λ (v : Peeling). v.known) c.self.view_is)
    (any_stuck _ _ _ _ c.self.view_is c.self.invariant.0 c.self.invariant.1).1

pub returns-clause-stops : goal.returns-clause-stops
returns-clause-stops c = rw (c.in_ok-positions.ensures, ap (λ (v : Peeling). v.known) c.self.view_is)
    (any_stuck _ _ _ _ c.self.view_is c.self.invariant.0 c.self.invariant.1).0

pub returns-clause-peeled : goal.returns-clause-peeled
returns-clause-peeled c = any_peeled _ _ _ _ c.self.view_is c.self.invariant.0

pub returns-in_err-positions-clause-peeled : goal.returns-in_err-positions-clause-peeled
returns-in_err-positions-clause-peeled c = any_peeled _ _ _ _ c.self.view_is c.self.invariant.0
