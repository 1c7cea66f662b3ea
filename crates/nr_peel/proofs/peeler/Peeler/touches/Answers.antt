use Rattle.nr_peel.proofs.SweepViewFacts.{any_counted, any_peeled}
use Rattle.nr_peel.proofs.peeler.Peeler.touches.Goals as goal

pub returns-clause-peeled : goal.returns-clause-peeled
returns-clause-peeled g c = any_peeled _ _ _ _ c.self.view_is c.self.invariant.0

pub returns-clause-worked : goal.returns-clause-worked
returns-clause-worked g c = any_counted _ _ _ _ c.self.view_is c.self.invariant.0
