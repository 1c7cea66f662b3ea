use Rattle.nr_blockdesk.proofs.LinkFacts.{link-sound}
use Rattle.nr_blockdesk.proofs.laws.links_are_sound.Goals as goal

pub returns : goal.returns
returns c = link-sound
