use Rattle.nr_files.proofs.{Common.arith, RoundFacts.blocks-begun, RoundFacts.blocks-stay}
use Rattle.nr_files.proofs.rounds.earlier.Earlier.push.Goals as goal

pub invariant_of-self-then-process-lt-PROCESSES : goal.invariant_of-self-then-process-lt-PROCESSES
invariant_of-self-then-process-lt-PROCESSES c = grind (arith, blocks-begun)

pub invariant_of-self-else-fresh : goal.invariant_of-self-else-fresh
invariant_of-self-else-fresh c = grind (arith, blocks-stay)
