use Rattle.nr_interleave.proofs.OctetFacts.{apart-gets}
use Rattle.nr_interleave.proofs.octets.apart.Goals as goal

pub returns : goal.returns
returns c = apart-gets c.args.word c.args.mask c.args.lane c.args.by c.requires.by
