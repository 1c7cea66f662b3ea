use Rattle.nr_cbconcat.proofs.OwnerFacts.{one-owner}
use Rattle.nr_cbconcat.proofs.places_have_one_owner.Goals as goal

pub returns : goal.returns
returns c = one-owner
