use Rattle.nr_interleave.proofs.SeatFacts.{seating}
use Rattle.nr_interleave.proofs.seats_are_seating.Goals as goal

pub returns : goal.returns
returns c = seating
