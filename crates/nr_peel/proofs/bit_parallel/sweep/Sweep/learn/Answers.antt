use Rattle.nr_peel.proofs.Common.{◌<◌, refl, true, length, arith, length-set}
use Rattle.nr_peel.proofs.{LearningFacts.learned, LearningFacts.learned_settled, LearningFacts.may_go_on, TieFacts.bit-mark}
use Rattle.nr_peel.proofs.bit_parallel.sweep.Sweep.learn.Goals as goal

pub go_on-requires : goal.go_on-requires
go_on-requires g c = (
  omega (arith, c.requires.settled.held.lanes.words),
  may_go_on _ _ _ _ _ _ _ c.requires.settled c.give_one.ensures refl refl refl,
)

-- what was reached before is still reached, and what follows from the positions that are new
pub returns : goal.returns
returns g c =
    let e = c.go_on.ensures in
    let was = c.requires.settled in
    let old = c.args.progress.now.given.items in
    let below : c.args.pos < length old = omega (arith, c.requires.inside, was.given_long) in
    record {
      settled = learned_settled _ _ _ e.held e.quiet e.counted was.table _ _ _ _ c.give_one.new.self was
          c.give_one.ensures (cc (length-set old c.args.pos true)) (λ p. cc (bit-mark old c.args.pos below p)) e.keeps;
      learns = learned _ _ _ _ c.go_on.new.progress _ c.go_on.new.self c.give_one.new.self was c.give_one.ensures
          (λ p. cc (bit-mark old c.args.pos below p)) e.keeps e.visited;
      given = cc;
    }
