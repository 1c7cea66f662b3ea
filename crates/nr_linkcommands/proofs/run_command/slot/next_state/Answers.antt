use Rattle.nr_linkcommands.proofs.run_command.slot.next_state.Goals as goal

pub returns : goal.returns
returns c = λ list holds. c.in_ok-receive_more.ensures c.args.sender.now.link list (c.in_ok-state.ensures.state list holds)
