use Rattle.nr_blockdesk.proofs.Common.{arith, ◌≡◌, Ok, refl, link_said}
use Rattle.nr_blockdesk.specs.Link.{link_of}
use Rattle.nr_blockdesk.proofs.link.Link.new.Goals.{In-Ok-new}
use Rattle.nr_blockdesk.proofs.link.Link.new.Goals as goal

pub returns-then-not-is_whole : goal.returns-then-not-is_whole
unfolding link_said
returns-then-not-is_whole c = rw (← c.is_whole.ensures, c.if-not-is_whole.true) refl

pub returns-in-Err : goal.returns-in-Err
unfolding link_said
returns-in-Err c = rw (← c.is_whole.ensures, c.if-not-is_whole.false, ← c.in-Err.ensures) refl

pub returns-in-Err-plan : goal.returns-in-Err-plan
unfolding link_said
returns-in-Err-plan c = grind arith

pub returns-then-not-has : goal.returns-then-not-has
unfolding link_said
returns-then-not-has c = grind arith

said : (c : In-Ok-new) → link_said c.args.table.now c.args.settings c.args.a
    ≡ Ok (link_of c.args.table.now c.in-Ok-plan.plan c.args.a c.in-Ok-new.buffer)
unfolding link_said
said c = grind arith

pub returns-in-Ok-new : goal.returns-in-Ok-new
returns-in-Ok-new c = said (goal.at.returns-in-Ok-new c).In-Ok-new

pub invariant_of-result : goal.invariant_of-result
invariant_of-result c =
    c.links_are_sound.ensures c.args.table.now c.args.settings c.args.a _ c.has.ensures.table
    (said (goal.at.invariant_of-result c).In-Ok-new)

pub returns-in-Err-new : goal.returns-in-Err-new
unfolding link_said
returns-in-Err-new c = grind arith
