use Rattle.nr_calls.proofs.Common.{sym, ap, ◌∙◌, subst, with_fault, planned_of}
use Rattle.nr_calls.proofs.RoomFacts.{same-graph, same-plan}
use Rattle.nr_calls.specs.Keeping.{arriving_by}
use Rattle.nr_calls.proofs.KeptReceiverFacts.{by-link, taken-fits}
use Rattle.nr_calls.specs.inside.Words.{TakesSaid}
use Rattle.nr_calls.specs.declared.fault.Fault.TheVariants as fault
use Rattle.nr_calls.proofs.keeping.take_up_by.Goals as goal

pub returns-clause-said : goal.returns-clause-said
returns-clause-said c =
    let params = c.args.params in
    let table = c.args.table.now in
    let digest = c.digest_of-digest.result in
    subst (λ said. TakesSaid c.take_over.result said)
    (sym (ap (λ d. arriving_by table d params.settings params.a c.args.room.now c.args.places c.args.tx.now c.args.octets.now)
    (sym c.digest_of-digest.ensures)
    ∙ by-link table digest params.settings params.a c.args.room.now c.args.places c.args.tx.now c.args.octets.now
    (planned_of c.in_ok-plan.plan) c.in_ok-link.link c.in_ok-plan.ensures.said (sym c.is_for.ensures ∙ c.if-not-is_for.false)
    c.in_ok-link.ensures))
    c.take_over.ensures

pub returns-clause-room : goal.returns-clause-room
returns-clause-room c =
    let params = c.args.params in
    let table = c.args.table.now in
    let link = c.in_ok-link.link in
    let plan = planned_of c.in_ok-plan.plan in
    taken-fits c.take_over.result c.args.places plan link c.digest_of-digest.result params.a c.args.room.now c.args.tx.now
    c.args.octets.now (sym c.is_for.ensures ∙ c.if-not-is_for.false)
    (same-plan table params.settings params.a link plan (ap (with_fault fault.Desk) c.in_ok-link.ensures)
    c.in_ok-plan.ensures.said)
    (same-graph table params.settings params.a link plan c.in_ok-link.ensures c.in_ok-plan.ensures.said) c.take_over.ensures
