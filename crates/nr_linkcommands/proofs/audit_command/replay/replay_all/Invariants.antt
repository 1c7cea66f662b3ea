use Rattle.nr_linkcommands.proofs.Common.{of_process, receptions_of, take, HasHeard}
use Rattle.nr_linkcommands.proofs.audit_command.replay.replay_all.Given as goal

-- the receiver has received what arrives of the process's transmissions so far
abbrev pub invariant-loop-transmission : goal.invariant-loop-transmission
invariant-loop-transmission l = record {
  heard : HasHeard l.sender (receptions_of l.sender (of_process l.process (take l.transmission-index l.transmissions))) l.receiver;
}
