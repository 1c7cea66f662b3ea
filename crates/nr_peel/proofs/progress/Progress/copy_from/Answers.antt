use Rattle.nr_peel.proofs.Common.{arith, get_or-replicate_same, false, refl, ◌∙◌}
use Rattle.std.proofs.Common.{ext_get_or}
use Rattle.nr_peel.proofs.progress.Progress.copy_from.Goals as goal

-- a list of zeros that is joined to another is that
pub returns-clause-same : goal.returns-clause-same
returns-clause-same c =
    let other = c.args.from.now.given.items in
    record {
      given = ext_get_or false c.union_with.new.self.items other
          (c.union_with.ensures.long ∙ c.zero.ensures.long ∙ c.requires)
          (λ p _. grind (arith, c.union_with.ensures.joined p, c.zero.ensures.items, get_or-replicate_same));
      left = refl;
      steps = c.in_ok-self.ensures.steps;
      kept = c.in_ok-self.ensures.kept;
      room = c.in_ok-self.ensures.room;
      touches = refl;
    }
