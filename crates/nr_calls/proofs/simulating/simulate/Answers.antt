use Rattle.nr_calls.proofs.Common.{◌∙◌, ap, sym, length, ◌*◌, Numbers, with_fault, planned_of}
use Rattle.nr_calls.proofs.{RoomFacts.same-plan, TableFacts.simulating-read}
use Rattle.nr_calls.proofs.SimulatedRoomFacts.{comes, filled, simulating-ok}
use Rattle.nr_calls.specs.declared.fault.Fault.TheVariants as fault
use Rattle.nr_calls.proofs.simulating.simulate.Goals as goal

pub returns-clause-said : goal.returns-clause-said
returns-clause-said c =
    let params = c.args.params in
    let table = c.in_ok-table.table in
    let link = c.in_ok-link.link in
    comes c.hear_rounds.result _ link c.args.txs.now c.args.thresholds.now c.args.seeds.now c.args.room.delivered
    (simulating-read params.entries.now table params.settings params.a c.in_ok-table.ensures.said
    c.args.txs.now c.args.thresholds.now c.args.seeds.now c.args.room
    ∙ simulating-ok table params.settings params.a c.args.txs.now c.args.thresholds.now c.args.seeds.now c.args.room
    (planned_of c.in_ok-plan.plan) link c.in_ok-plan.ensures.said
    c.in_ok-judge_lists.ensures.said c.in_ok-link.ensures c.in_ok-judge_all.ensures.said)
    c.hear_rounds.ensures.rounds c.hear_rounds.ensures.err

pub returns-clause-room : goal.returns-clause-room
returns-clause-room c =
    let params = c.args.params in
    let table = c.in_ok-table.table in
    let link = c.in_ok-link.link in
    let same = ap (λ (n : Numbers). n.c)
    (same-plan table params.settings params.a link
    (planned_of c.in_ok-plan.plan) (ap (with_fault fault.Desk) c.in_ok-link.ensures) c.in_ok-plan.ensures.said).0 in
    filled c.hear_rounds.result c.args.room link c.args.txs.now c.args.thresholds.now c.args.seeds.now c.hear_rounds.ensures.rounds
    c.in_ok-judge_lists.ensures.thresholds c.in_ok-judge_lists.ensures.seeds
    (c.in_ok-judge_lists.ensures.left ∙ ap (λ k. length c.args.seeds.now * k) (sym same))
    (c.in_ok-judge_lists.ensures.erased ∙ ap (λ k. length c.args.seeds.now * k) (sym same))
