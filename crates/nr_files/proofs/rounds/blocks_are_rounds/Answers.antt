use Rattle.nr_files.proofs.RoundFacts.{blocks_are_rounds}
use Rattle.nr_files.proofs.rounds.blocks_are_rounds.Goals as goal

pub returns : goal.returns
returns c = blocks_are_rounds
