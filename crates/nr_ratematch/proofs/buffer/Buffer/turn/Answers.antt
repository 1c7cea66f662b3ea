use Rattle.std.proofs.Math.Nat.{add-mod_right}
use Rattle.nr_ratematch.proofs.RunFacts.{same-place}
use Rattle.nr_ratematch.proofs.buffer.Buffer.turn.Goals as goal

pub returns-clause-again : goal.returns-clause-again
returns-clause-again c =
    λ k. same-place c.cycle.result c.args.self.now c.args.rv _ k c.cycle.ensures.places (add-mod_right k c.cycle.result.count)
