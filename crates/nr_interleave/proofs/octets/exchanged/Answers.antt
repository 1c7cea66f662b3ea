use Rattle.nr_interleave.proofs.OctetFacts.{exchanged-gets}
use Rattle.nr_interleave.proofs.octets.exchanged.Goals as goal

pub returns : goal.returns
returns c = exchanged-gets c.args.word c.args.mask c.args.by
