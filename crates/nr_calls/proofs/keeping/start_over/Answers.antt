use Rattle.nr_calls.proofs.Common.{◌∙◌, IfOk-weaker, ap, refl, room_of}
use Rattle.nr_calls.proofs.KeptReceiverFacts.{room-fits, room-is}
use Rattle.nr_calls.proofs.keeping.start_over.Goals as goal

pub returns-clause-octets : goal.returns-clause-octets
returns-clause-octets c =
    let link = c.args.link in
    let heard = c.in_ok-receiver.receiver.heard in
    IfOk-weaker c.room_on.result _ _
    (λ octets is. room-is c.args.digest link c.in_ok-header.header.items octets.items heard is c.in_ok-header.ensures
    ∙ ap (room_of c.args.digest link) (rw c.in_ok-receiver.ensures.link at c.in_ok-receiver.ensures.empty.same))
    c.room_on.ensures.octets

-- a header and a record of each code block
pub returns-clause-long : goal.returns-clause-long
returns-clause-long c =
    let link = c.args.link in
    let heard = c.in_ok-receiver.receiver.heard in
    IfOk-weaker c.room_on.result _ _
    (λ octets is. room-fits c.args.digest link octets.items heard _
    (room-is c.args.digest link c.in_ok-header.header.items octets.items heard is c.in_ok-header.ensures)
    (rw c.in_ok-receiver.ensures.link at c.room_on.ensures.fit) refl)
    c.room_on.ensures.octets
