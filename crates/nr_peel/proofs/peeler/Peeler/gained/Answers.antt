use Rattle.nr_peel.proofs.SweepViewFacts.{any_peeled}
use Rattle.nr_peel.proofs.peeler.Peeler.gained.Goals as goal

pub returns-clause-peeled : goal.returns-clause-peeled
returns-clause-peeled c = any_peeled _ _ _ _ c.self.view_is c.self.invariant.0
