use Rattle.nr_bitvec.proofs.PackedListFacts.{changes-from}
use Rattle.nr_bitvec.proofs.words.change.Goals as goal

pub returns : goal.returns
returns c =
    changes-from c.args.words.now c.args.at c.args.count c.args.word c.window.result c.low_bits.result c.requires c.window.ensures
    c.low_bits.ensures.low c.low_bits.ensures.high
