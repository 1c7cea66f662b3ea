use Rattle.nr_calls.proofs.Common.{◌∙◌, ◌≡◌, arith, false, refl, sym, true, nat_tests, nat_le, planned_of}
use Rattle.nr_calls.proofs.StageFacts.{said-so-far}
use Rattle.nr_calls.proofs.stages.select_plan.Goals as goal

pub returns-then-not-is_told-clause-said : goal.returns-then-not-is_told-clause-said
returns-then-not-is_told-clause-said c =
    said-so-far c.args.settings c.args.a c.args.rv c.args.d.now c.args.e
    (planned_of c.in_ok-plan.plan) c.in-Ok.buffer c.is_told.result c.in_ok-plan.ensures.said (sym c.in-Ok.ensures)
    c.if-rv-gt3.false c.if-d-plan.false c.is_told.ensures
    ∙ rw c.if-not-is_told.true refl

pub returns-then-e-gt-MOST_SENT-clause-said : goal.returns-then-e-gt-MOST_SENT-clause-said
returns-then-e-gt-MOST_SENT-clause-said c =
    let many : nat_le c.args.e 4194304 ≡ false = grind (arith, nat_tests) in
    said-so-far c.args.settings c.args.a c.args.rv c.args.d.now c.args.e
    (planned_of c.in_ok-plan.plan) c.in-Ok.buffer c.is_told.result c.in_ok-plan.ensures.said (sym c.in-Ok.ensures)
    c.if-rv-gt3.false c.if-d-plan.false c.is_told.ensures
    ∙ rw (c.if-not-is_told.false, many) refl

pub returns-clause-said : goal.returns-clause-said
returns-clause-said c =
    let few : nat_le c.args.e 4194304 ≡ true = grind (arith, nat_tests) in
    said-so-far c.args.settings c.args.a c.args.rv c.args.d.now c.args.e
    (planned_of c.in_ok-plan.plan) c.in-Ok.buffer c.is_told.result c.in_ok-plan.ensures.said (sym c.in-Ok.ensures)
    c.if-rv-gt3.false c.if-d-plan.false c.is_told.ensures
    ∙ rw (c.if-not-is_told.false, few) refl
