use Rattle.nr_linkcommands.proofs.Common.{arith}
use Rattle.nr_linkcommands.proofs.audit_command.replay.replay.Goals as goal

pub replay_all-requires : goal.replay_all-requires
replay_all-requires c = grind arith
