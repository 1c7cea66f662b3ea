use Rattle.nr_blockdesk.proofs.Common.{sym, ◌∙◌, attached_length, numbers}
use Rattle.nr_blockdesk.proofs.link.Link.plan.Goals as goal

pub returns-clause-whole : goal.returns-clause-whole
returns-clause-whole c =
    let s = c.self.inside in
    rw (← c.self.view_is)
    (sym s.plan.sound.shared
    ∙ (c.plans_are_sound.ensures s.plan.graph (attached_length s.a) (numbers s.plan) c.self.invariant.planned).shared)
