use Rattle.nr_linkcommands.proofs.{Common.arith, Common.nat_tests, Common.outcome_of, Common.was-open, RunLineFacts.unfixed-if}
use Rattle.nr_linkcommands.proofs.run_command.lines.outcome_line.Goals as goal

pub returns-in-None : goal.returns-in-None
unfolding outcome_of
returns-in-None c = grind (arith, nat_tests, unfixed-if, was-open)
