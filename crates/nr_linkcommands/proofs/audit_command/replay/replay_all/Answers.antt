use Rattle.nr_linkcommands.proofs.{Common.arith, AuditFacts.received-next}
use Rattle.nr_linkcommands.proofs.audit_command.replay.replay_all.Goals as goal

pub loop-transmission-preserved : goal.loop-transmission-preserved
loop-transmission-preserved c = grind (arith, received-next)
