use Rattle.nr_segment.proofs.PlanLemmas.{sound-plan}
use Rattle.nr_segment.proofs.laws.plans_are_sound.Goals as goal

pub returns : goal.returns
returns c = sound-plan
