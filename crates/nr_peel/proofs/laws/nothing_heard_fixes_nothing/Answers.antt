use Rattle.nr_peel.proofs.{Common.set_below, NothingHeardFacts.nothing_fixed}
use Rattle.nr_peel.proofs.laws.nothing_heard_fixes_nothing.Goals as goal

pub returns : goal.returns
returns c = λ t g b p q table some plan low.
    nothing_fixed t g b p q table some plan (set_below p.z p.set plan.set_is) low
