use Rattle.nr_linkcommands.proofs.{Common.arith, Common.with_text-nil, AuditFacts.unsaid}
use Rattle.nr_linkcommands.proofs.audit_command.AuditRoundsWalk.transmit.Goals as goal

pub returns-clause-text : goal.returns-clause-text
returns-clause-text g c = grind (arith, unsaid, with_text-nil)
