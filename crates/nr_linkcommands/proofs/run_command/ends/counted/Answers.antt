use Rattle.nr_linkcommands.proofs.{Common.arith, Common.nat_tests, Common.outcome_of, Common.was-open, RunLineFacts.unfixed-if}
use Rattle.nr_linkcommands.proofs.run_command.ends.counted.Goals as goal

pub returns-in-None-clause-value : goal.returns-in-None-clause-value
unfolding outcome_of
returns-in-None-clause-value c = grind (arith, nat_tests, unfixed-if, was-open)
