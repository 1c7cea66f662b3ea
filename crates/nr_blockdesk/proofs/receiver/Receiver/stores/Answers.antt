use Rattle.nr_blockdesk.proofs.{Common.arith, ReceptionFacts.fit-of_desk}
use Rattle.nr_blockdesk.proofs.receiver.Receiver.stores.Goals as goal

pub returns-clause-same : goal.returns-clause-same
returns-clause-same g c = rw (← c.self.view_is) c.as_slice.ensures.value

pub returns-clause-fit : goal.returns-clause-fit
returns-clause-fit g c = grind (arith, fit-of_desk)
