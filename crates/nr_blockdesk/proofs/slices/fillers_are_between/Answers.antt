use Rattle.nr_blockdesk.proofs.SliceFacts.{fillers_between}
use Rattle.nr_blockdesk.proofs.slices.fillers_are_between.Goals as goal

pub returns : goal.returns
returns c = fillers_between c.checks_are_sound.ensures c.steps_stay_in_closure.ensures
