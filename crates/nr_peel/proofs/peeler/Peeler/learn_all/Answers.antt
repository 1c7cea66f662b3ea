use Rattle.nr_peel.proofs.{Common.refl, SweepViewFacts.any_peeled}
use Rattle.nr_peel.proofs.peeler.Peeler.learn_all.Goals as goal

pub returns-clause-given : goal.returns-clause-given
returns-clause-given g c = rw (← c.self.view_is) c.learn_all.ensures.learns.given

pub returns-clause-known : goal.returns-clause-known
returns-clause-known g c = rw (← c.self.view_is) c.learn_all.ensures.learns.known

pub returns-clause-bits : goal.returns-clause-bits
returns-clause-bits g c = rw (← c.self.view_is) c.learn_all.ensures.learns.bits

pub returns-clause-taken : goal.returns-clause-taken
returns-clause-taken g c = rw (← c.self.view_is) c.learn_all.ensures.learns.taken

pub returns-clause-words : goal.returns-clause-words
returns-clause-words g c = rw (← c.self.view_is) c.learn_all.ensures.learns.words

pub returns-clause-peeled : goal.returns-clause-peeled
returns-clause-peeled g c = any_peeled _ _ _ _ refl c.learn_all.ensures.settled
