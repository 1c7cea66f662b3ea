use Rattle.nr_linkcommands.proofs.Common.{Some, arith, err-is, sender_of, ◌≡◌}
use Rattle.nr_linkcommands.proofs.SendLemmas.{sender-there, transmission_line-at}
use Rattle.nr_linkcommands.proofs.send_command.write_transmission.Goals.{After-index-sender}
use Rattle.nr_linkcommands.proofs.send_command.write_transmission.Given as given
use Rattle.nr_linkcommands.proofs.send_command.write_transmission.Goals as goal

-- the sender of the transmission's block
there : (g : given.Over) (c : After-index-sender g)
    → sender_of c.args.ready.now.senders.items c.args.transmission.now.block ≡ Some c.index-sender.result.now
there g c =
    sender-there c.args.ready.now.senders.items c.args.transmission.now.block c.index-sender.result.now
    (omega (arith, c.requires.named.0, c.requires.named.1)) c.index-sender.ensures

pub returns-in_err-write_sent-clause-text : goal.returns-in_err-write_sent-clause-text
returns-in_err-write_sent-clause-text g c =
    let at = there g (goal.at.returns-in_err-write_sent-clause-text g c).After-index-sender in
    rw (
      err-is c.from_residual.result _ c.from_residual.ensures.1,
      transmission_line-at c.args.ready.now.senders.items c.args.transmission.now c.index-sender.result.now at,
    )
    c.in_err-write_sent.ensures.text

pub returns-clause-text : goal.returns-clause-text
returns-clause-text g c =
    let at = there g (goal.at.returns-clause-text g c).After-index-sender in
    rw (transmission_line-at c.args.ready.now.senders.items c.args.transmission.now c.index-sender.result.now at)
    c.in_ok-write_sent.ensures.text
