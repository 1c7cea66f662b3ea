use Rattle.nr_ratematch.proofs.BufferFacts.{buffer-circular}
use Rattle.nr_ratematch.proofs.laws.buffers_are_circular.Goals as goal

pub returns : goal.returns
returns c = buffer-circular c.plans_are_sound.ensures
