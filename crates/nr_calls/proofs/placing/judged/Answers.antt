use Rattle.nr_calls.proofs.Common.{numbers, sym}
use Rattle.nr_calls.proofs.placing.judged.Goals as goal

-- the buffers of every plan are circular buffers, by their law
pub invariant_of-result-clause-circular : goal.invariant_of-result-clause-circular
invariant_of-result-clause-circular c =
    let p = c.in_ok-plan.plan in
    c.buffers_are_circular.ensures p.graph p.b (numbers p) c.args.settings.lbrm c.in-Ok.buffer p.planned (sym c.in-Ok.ensures)
