-- The command is what it hands on: the text over four files.
use Rattle.nr_linkcommands.proofs.audit_command.audit.Goals as goal

pub returns : goal.returns
returns g c = c.over_files.ensures
