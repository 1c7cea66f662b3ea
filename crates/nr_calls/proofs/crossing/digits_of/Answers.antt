use Rattle.nr_calls.proofs.LowDigitFacts.{eight_lanes}
use Rattle.nr_calls.proofs.crossing.digits_of.Goals as goal

pub returns : goal.returns
returns c = eight_lanes c.args.word
