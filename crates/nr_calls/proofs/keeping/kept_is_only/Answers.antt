use Rattle.nr_calls.proofs.KeptPlaceFacts.{kept-only}
use Rattle.nr_calls.proofs.keeping.kept_is_only.Goals as goal

pub returns : goal.returns
returns c = kept-only c.decided_is_only.ensures
