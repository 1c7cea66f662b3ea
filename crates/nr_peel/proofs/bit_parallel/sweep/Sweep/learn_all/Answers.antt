use Rattle.nr_peel.proofs.{Common.refl, Common.arith, LearningFacts.learned, LearningFacts.learned_settled, LearningFacts.may_go_on}
use Rattle.nr_peel.proofs.bit_parallel.sweep.Sweep.learn_all.Goals as goal

pub go_on-requires : goal.go_on-requires
go_on-requires g c = (
  omega (arith, c.requires.settled.held.lanes.words),
  may_go_on _ _ _ _ _ _ _ c.requires.settled c.give.ensures refl refl refl,
)

-- what was reached before is still reached, and what follows from the positions that are new
pub returns : goal.returns
returns g c =
    let e = c.go_on.ensures in
    let was = c.requires.settled in
    record {
      settled = learned_settled _ _ _ e.held e.quiet e.counted was.table _ _ _ _ c.give.new.self was c.give.ensures
          (cc) (λ p. cc (c.union_with.ensures.joined p)) e.keeps;
      learns = learned _ _ _ _ c.go_on.new.progress _ c.go_on.new.self c.give.new.self was c.give.ensures
          (λ p. cc (c.union_with.ensures.joined p)) e.keeps e.visited;
    }
