use Rattle.nr_bitvec.proofs.OctetReversalFacts.{swapped-place}
use Rattle.nr_bitvec.proofs.octets.swapped.Goals as goal

pub returns : goal.returns
returns c = λ j. swapped-place c.args.word c.args.mask c.args.by j c.requires
