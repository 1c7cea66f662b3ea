use Rattle.nr_peel.proofs.Common.{refl, sym, ap, ◌∙◌, eq-eqb, eqb-true}
use Rattle.nr_peel.proofs.SweepViewFacts.{any_peeled}
use Rattle.nr_peel.proofs.peeler.Peeler.learn.Goals as goal

pub returns-clause-words : goal.returns-clause-words
returns-clause-words g c = rw (← c.self.view_is)
    (λ w meets agree is. c.learn.ensures.learns.words w meets agree (λ p e. ap w (sym (eqb-true c.args.pos p e)) ∙ is))

pub returns-clause-bits : goal.returns-clause-bits
returns-clause-bits g c = rw (← c.self.view_is) c.learn.ensures.learns.bits

pub returns-clause-taken : goal.returns-clause-taken
returns-clause-taken g c =
    rw (← c.self.view_is) (λ out. c.learn.ensures.learns.taken c.args.pos (eq-eqb c.args.pos c.args.pos refl) out)

pub returns-clause-peeled : goal.returns-clause-peeled
returns-clause-peeled g c = any_peeled _ _ _ _ refl c.learn.ensures.settled
