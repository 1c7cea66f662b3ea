use Rattle.nr_linkcommands.proofs.Common.{sym}
use Rattle.nr_files.proofs.RoundFacts.{round_of-stale}
use Rattle.nr_linkcommands.proofs.audit_command.round_in.Goals as goal

pub returns-clause-transmissions : goal.returns-clause-transmissions
returns-clause-transmissions c =
    sym (round_of-stale c.args.before.now (rw c.if-ready.false at c.requires.placed) c.args.process)
