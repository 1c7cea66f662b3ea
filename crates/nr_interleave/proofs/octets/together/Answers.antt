use Rattle.nr_interleave.proofs.OctetFacts.{together-gets}
use Rattle.nr_interleave.proofs.octets.together.Goals as goal

pub returns : goal.returns
returns c = together-gets c.args.word c.args.mask c.args.lane c.args.by
