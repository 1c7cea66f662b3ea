use Rattle.nr_linkcommands.proofs.{Common.append-nil, Common.arith, Common.sym, ReceptionFacts.arrival-accepted}
use Rattle.nr_linkcommands.proofs.RunLineFacts.{received_of-sent}
use Rattle.nr_linkcommands.proofs.audit_command.replay.replay_one.Goals as goal

pub receive-requires : goal.receive-requires
receive-requires c =
    let said = sym (rw c.in-Ok.is at c.in_ok-bits.ensures.said) in
    record {
      accepted = rw c.requires
          (arrival-accepted c.accepted_send_all.ensures c.args.sender.now c.args.transmission.now c.in-Ok.bits.items
          c.in_ok-arrival-in-Ok.arrival
          said c.in_ok-arrival-in-Ok.ensures);
    }

pub returns-in_ok-receive-in-Ok : goal.returns-in_ok-receive-in-Ok
returns-in_ok-receive-in-Ok c = grind (arith, received_of-sent)

pub returns-in-Err : goal.returns-in-Err
returns-in-Err c = grind (arith, append-nil)
