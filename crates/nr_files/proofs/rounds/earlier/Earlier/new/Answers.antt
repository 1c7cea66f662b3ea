use Rattle.nr_files.proofs.RoundFacts.{blocks-none}
use Rattle.nr_files.proofs.rounds.earlier.Earlier.new.Goals as goal

pub invariant_of-result : goal.invariant_of-result
invariant_of-result c = record { begun = rw c.new.ensures.items blocks-none }
