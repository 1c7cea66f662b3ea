use Rattle.nr_calls.proofs.Common.{Err, IfOk-weaker, ap, inr, sym, ◌∙◌, eq-eqb, err_from_is_err_and}
use Rattle.nr_calls.proofs.Common.{[], heard_record, planned_of, room_of}
use Rattle.nr_calls.proofs.RoomFacts.{same-room}
use Rattle.nr_calls.specs.Keeping.{start_by}
use Rattle.nr_calls.proofs.KeptReceiverFacts.{made-said, start-is, unlinked}
use Rattle.nr_refusal.proofs.ResultFacts.{gives-err}
use Rattle.nr_calls.specs.declared.fault.Fault.TheVariants as fault
use Rattle.nr_calls.proofs.keeping.started_by.Goals as goal

pub returns-in_err-link-clause-said : goal.returns-in_err-link-clause-said
returns-in_err-link-clause-said c =
    let params = c.args.params in
    let table = c.args.table.now in
    let digest = c.digest_of-digest.result in
    let refused = c.from_residual-in_err-link.result in
    let p = err_from_is_err_and refused c.from_residual-in_err-link.ensures.1 in
    gives-err fault.Memory (λ octets. octets.items) refused c.in_err-link.field-0.0 _ (p.1 ∙ ap Err p.2)
    (inr (ap (λ d. start_by table d params.settings params.a c.args.room) (sym c.digest_of-digest.ensures)
    ∙ unlinked table digest params.settings params.a c.args.room (planned_of c.in_ok-plan.plan) c.in_err-link.field-0.0
    c.in_ok-plan.ensures.said (eq-eqb c.args.room _ (c.if-room-room_length.false ∙ c.room_length.ensures))
    c.in_err-link.ensures))

pub returns-clause-said : goal.returns-clause-said
returns-clause-said c =
    let params = c.args.params in
    let table = c.args.table.now in
    let digest = c.digest_of-digest.result in
    let link = c.in_ok-link.link in
    made-said (λ octets. octets.items) c.start_over.result (room_of digest link (heard_record link [])) _
    c.start_over.ensures.octets c.start_over.ensures.err
    (ap (λ d. start_by table d params.settings params.a c.args.room) (sym c.digest_of-digest.ensures)
    ∙ start-is table digest params.settings params.a c.args.room (planned_of c.in_ok-plan.plan) link c.in_ok-plan.ensures.said
    (eq-eqb c.args.room _ (c.if-room-room_length.false ∙ c.room_length.ensures)) c.in_ok-link.ensures)

-- The room over the link has as many octets as `room_length` says, which is the caller's room.
pub returns-clause-room : goal.returns-clause-room
returns-clause-room c =
    let params = c.args.params in
    IfOk-weaker c.start_over.result _ _
    (λ octets long. long ∙ sym (c.if-room-room_length.false ∙ c.room_length.ensures
    ∙ same-room c.args.table.now params.settings params.a c.in_ok-link.link (planned_of c.in_ok-plan.plan)
    c.in_ok-link.ensures c.in_ok-plan.ensures.said))
    c.start_over.ensures.long
