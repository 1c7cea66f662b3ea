use Rattle.nr_bitvec.proofs.OctetReversalFacts.{turned-place}
use Rattle.nr_bitvec.proofs.octets.turned.Goals as goal

pub returns : goal.returns
returns c =
    turned-place c.args.word c.swapped-pairs.result c.swapped-fours.result c.swapped.result c.swapped-pairs.ensures
    c.swapped-fours.ensures c.swapped.ensures
