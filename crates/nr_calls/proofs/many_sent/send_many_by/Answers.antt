use Rattle.std.proofs.Common.{◌∙◌, ap, sym, ◌/◌, ◌*◌}
use Rattle.nr_calls.specs.inside.Words.{joined}
use Rattle.nr_calls.proofs.ManySentFacts.{all-long, made-room}
use Rattle.nr_calls.proofs.many_sent.send_many_by.Goals as goal

pub returns-clause-room : goal.returns-clause-room
returns-clause-room c =
    made-room (λ parts. joined parts.items) c.send_rows.result _ c.args.blocks.room c.send_rows.ensures.sent
    (all-long c.accepted_send_all.ensures c.in_ok-link.link c.args.txs.now (c.args.params.a / 8) c.args.blocks.count
    c.args.blocks.octets.now c.in_ok-judge_all.ensures.accepted
    ∙ ap (λ p. c.args.blocks.count * p) (sym c.places_sent.ensures.value) ∙ sym c.if-blocks-places_sent.false)
