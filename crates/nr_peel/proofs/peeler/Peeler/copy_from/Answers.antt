use Rattle.nr_peel.proofs.{Common.◌∙◌, CopyFacts.fits_any, CopyFacts.given_alike}
use Rattle.nr_peel.proofs.peeler.Peeler.copy_from.Goals as goal

-- both peelers are of one code
pub copy_from-requires : goal.copy_from-requires
copy_from-requires g c =
    let own = c.self.inside in
    let other = c.from.inside in
    given_alike own.lifted other.lifted own.progress other.progress own.sweep other.sweep c.args.self.now c.args.from.now
    c.self.view_is c.from.view_is c.requires c.self.invariant.0 c.from.invariant.0

pub copy_from-requires-2 : goal.copy_from-requires-2
copy_from-requires-2 g c =
    let own = c.self.inside in
    let other = c.from.inside in
    fits_any own.lifted other.lifted own.progress other.progress own.sweep other.sweep c.args.self.now c.args.from.now
    c.self.view_is c.from.view_is c.requires c.self.invariant.0 c.from.invariant.0

-- what serves as well is settled, and seen alike
pub invariant_of-self-2 : goal.invariant_of-self-2
invariant_of-self-2 g c =
    let other = c.from.inside in
    let same = c.in_ok-copy_from.ensures.same in (
      (c.copy_from-2.ensures other.lifted other.progress c.copy_from.new.self same c.from.invariant.0).0,
      same.kept ∙ c.from.invariant.1,
    )

pub returns-clause-same : goal.returns-clause-same
returns-clause-same g c =
    let other = c.from.inside in
    let same = c.in_ok-copy_from.ensures.same in
    (c.copy_from-2.ensures other.lifted other.progress c.copy_from.new.self same c.from.invariant.0).1 ∙ c.from.view_is
