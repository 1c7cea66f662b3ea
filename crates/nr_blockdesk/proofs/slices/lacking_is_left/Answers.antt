use Rattle.nr_blockdesk.proofs.SliceFacts.{lacking_is_left}
use Rattle.nr_blockdesk.proofs.slices.lacking_is_left.Goals as goal

pub returns : goal.returns
returns c = lacking_is_left
