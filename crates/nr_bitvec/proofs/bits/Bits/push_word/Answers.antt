use Rattle.nr_bitvec.proofs.{Common.arith, PackedListFacts.word-items, PackedListFacts.word-packed}
use Rattle.nr_bitvec.proofs.bits.Bits.push_word.Goals as goal

pub invariant_of-self : goal.invariant_of-self
invariant_of-self c = grind (arith, word-packed)

pub returns-clause-items : goal.returns-clause-items
returns-clause-items c =
    rw (← c.self.view_is)
    (word-items c.self.inside.len c.args.count c.self.inside.words.items c.push_bits.new.words.items c.args.word c.low_bits.result
    c.push_bits.ensures.grows c.low_bits.ensures.low)
