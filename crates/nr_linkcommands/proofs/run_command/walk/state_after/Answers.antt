use Rattle.nr_linkcommands.proofs.{ReceptionFacts.arrival-accepted, RunLineFacts.received_of-sent}
use Rattle.nr_linkcommands.proofs.run_command.walk.state_after.Goals as goal

pub next_state-requires-clause-accepted : goal.next_state-requires-clause-accepted
next_state-requires-clause-accepted c =
    arrival-accepted c.accepted_send_all.ensures c.args.sender.now c.args.transmission.now c.args.bits.items
    c.in_ok-arrival.arrival c.requires.sent c.in_ok-arrival.ensures

pub returns : goal.returns
returns c =
    rw (received_of-sent c.args.sender.now c.args.transmission.now c.args.bits.items c.requires.sent)
    (rw (c.take.ensures.value, c.in_ok-arrival.ensures) at c.next_state.ensures)
