use Rattle.std.proofs.Common.{◌≡◌, true, ap, rules, length}
use Rattle.nr_refusal.specs.Refusal.{with_fault}
use Rattle.nr_calls.specs.Findings.{is_room}
use Rattle.nr_calls.specs.inside.Words.{planned_of}
use Rattle.nr_calls.specs.declared.fault.Fault.TheVariants as fault
use Rattle.nr_calls.proofs.RoomFacts.{filled, same-plan}
use Rattle.nr_calls.proofs.receiving.receive.Goals as goal

pub returns-clause-room : goal.returns-clause-room
returns-clause-room c =
    let params = c.args.params in
    let table = c.in_ok-table.table in
    let asked : is_room c.args.room c.in_ok-plan.plan.c params.a (length c.args.txs.now) ≡ true = search rules in
    filled c.receive_over.result c.args.room c.in_ok-link.link (planned_of c.in_ok-plan.plan) params.a
    (length c.args.txs.now) asked
    (same-plan table params.settings params.a c.in_ok-link.link (planned_of c.in_ok-plan.plan)
    (ap (with_fault fault.Desk) c.in_ok-link.ensures) c.in_ok-plan.ensures.said)
    c.receive_over.ensures.outcomes c.receive_over.ensures.left c.receive_over.ensures.block
