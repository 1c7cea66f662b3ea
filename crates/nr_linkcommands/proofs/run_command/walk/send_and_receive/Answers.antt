-- The line of `send` comes first, and then, if bits are sent, those of the code blocks.
use Rattle.nr_linkcommands.proofs.Common.{Ok, append-nil, arith, sent_said, writes_last, ◌≡◌}
use Rattle.nr_linkcommands.proofs.RunTextFacts.{first-stopped}
use Rattle.nr_linkcommands.proofs.RunLineFacts.{lines_of-first, lines_of-sent, lines_of-unsent, on_ok-any, received_of-sent}
use Rattle.nr_linkcommands.proofs.RunLineFacts.{received_of-unsent, said-sent}
use Rattle.nr_linkcommands.proofs.run_command.walk.send_and_receive.Goals.{In-Some}
use Rattle.nr_linkcommands.proofs.run_command.walk.send_and_receive.Given as given
use Rattle.nr_linkcommands.proofs.run_command.walk.send_and_receive.Goals as goal

-- what the sender says, if bits are sent
said : (g : given.Over) (c : In-Some g)
    → sent_said c.args.sender.now.link c.args.transmission.now.tx c.args.sender.now.block ≡ Ok c.in-Some.bits.items
said g c = said-sent _ _ (rw c.in-Some.is at c.in_ok-write_sent.ensures.sent)

pub receive_sent-requires-clause-sent : goal.receive_sent-requires-clause-sent
receive_sent-requires-clause-sent g c = said g (goal.at.receive_sent-requires-clause-sent g c).In-Some

pub returns-in_err-write_sent-clause-text : goal.returns-in_err-write_sent-clause-text
returns-in_err-write_sent-clause-text g c = λ list holds.
    let first = lines_of-first c.args.sender.now list c.args.transmission.now in
    rw first.1 (first-stopped _ _ c.from_residual.result _ _ first.0 c.from_residual.ensures.1 c.in_err-write_sent.ensures.text)

pub returns-in-Some-clause-text : goal.returns-in-Some-clause-text
returns-in-Some-clause-text g c = λ list holds.
    let sent = said g (goal.at.returns-in-Some-clause-text g c).In-Some in
    let received = received_of-sent c.args.sender.now c.args.transmission.now c.in-Some.bits.items sent in
    rw (lines_of-sent c.args.sender.now list c.args.transmission.now c.in-Some.bits.items sent)
    (writes_last _ _ _ c.receive_sent.result _ _ (rw sent at c.in_ok-write_sent.ensures.text)
    (rw received at c.receive_sent.ensures.text list holds))

pub returns-in-None-clause-text : goal.returns-in-None-clause-text
returns-in-None-clause-text g c = grind (arith, lines_of-unsent)

pub returns-in-None-clause-held : goal.returns-in-None-clause-held
returns-in-None-clause-held g c = grind (arith, on_ok-any, append-nil, received_of-unsent)
