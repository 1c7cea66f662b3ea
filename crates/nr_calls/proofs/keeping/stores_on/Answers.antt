use Rattle.nr_calls.proofs.Common.{inr, sym, ap, ◌∙◌, or_fault, Numbers}
use Rattle.nr_calls.proofs.KeptReceiverFacts.{records-in-is, records-in-none}
use Rattle.nr_calls.specs.declared.fault.Fault.TheVariants as fault
use Rattle.nr_calls.proofs.keeping.stores_on.Goals as goal

pub returns-then-not-starts_with : goal.returns-then-not-starts_with
returns-then-not-starts_with c = λ digest header.
    inr (ap (or_fault fault.State)
    (records-in-none digest c.args.link.now c.args.room.now c.args.header.now (sym c.starts_with.ensures.value
    ∙ c.if-not-starts_with.true) header))

pub returns : goal.returns
returns c = λ digest header.
    let same =
    records-in-is digest c.args.link.now c.args.room.now c.args.header.now c.split_at.result.1.now c.positions.result
    c.plan-plan.result.now.c
    (sym c.starts_with.ensures.value ∙ c.if-not-starts_with.false) header
    (c.positions.ensures.same ∙ c.plan-plan.ensures.positions)
    (ap (λ (p : Numbers). p.c) c.plan-plan.ensures.numbers) c.split_at.ensures.back in
    rw same c.stores_in.ensures
