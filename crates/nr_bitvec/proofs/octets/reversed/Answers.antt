use Rattle.nr_bitvec.proofs.OctetReversalFacts.{reversed-place}
use Rattle.nr_bitvec.proofs.octets.reversed.Goals as goal

pub returns : goal.returns
returns c = reversed-place c.args.word c.swap_bytes.result c.turned.result c.swap_bytes.ensures c.turned.ensures
