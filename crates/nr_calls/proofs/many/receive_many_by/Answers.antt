use Rattle.std.proofs.Common.{◌∙◌, sym}
use Rattle.nr_calls.specs.inside.Words.{planned_of}
use Rattle.nr_calls.proofs.ManyFacts.{many-said, same-each}
use Rattle.nr_calls.proofs.many.receive_many_by.Goals as goal

-- the link has the plan's numbers
pub receive_rows-requires-clause-each : goal.receive_rows-requires-clause-each
receive_rows-requires-clause-each c =
    same-each c.args.table.now c.args.settings c.args.a c.args.txs.now c.in_ok-link.link (planned_of c.in_ok-plan.plan)
    c.in_ok-link.ensures c.in_ok-plan.ensures.said

pub returns-clause-said : goal.returns-clause-said
returns-clause-said c =
    many-said c.args.table.now c.args.settings c.args.room.count c.args.a c.args.txs.now c.args.octets.now c.args.room.all
    (planned_of c.in_ok-plan.plan) c.in_ok-link.link c.places_sent-places.result c.receive_rows.result
    c.if-txs-gt-MOST_TRANSMISSIONS.false c.in_ok-plan.ensures.said (sym c.is_for.ensures ∙ c.if-not-is_for.false)
    c.places_sent-places.ensures.value c.if-octets-room.false c.in_ok-link.ensures c.receive_rows.ensures.said
    c.receive_rows.ensures.each
