use Rattle.nr_ratematch.proofs.BufferFacts.{place-sent}
use Rattle.nr_ratematch.proofs.laws.places_are_sent.Goals as goal

pub returns : goal.returns
returns c = place-sent
