use Rattle.nr_linkcommands.proofs.Common.{append-nil, arith, nat_tests}
use Rattle.nr_linkcommands.proofs.audit_command.replay.replay_if_of.Goals as goal

pub returns-then-transmission-process : goal.returns-then-transmission-process
returns-then-transmission-process c = grind (arith, nat_tests, append-nil)

pub returns : goal.returns
returns c = grind (arith, nat_tests, append-nil)
