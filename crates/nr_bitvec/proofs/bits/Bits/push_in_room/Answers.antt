use Rattle.nr_bitvec.proofs.{Common.◌++◌, Common.◌∙◌, Common.ap, PackedListFacts.low_first-bool}
use Rattle.nr_bitvec.proofs.bits.Bits.push_in_room.Goals as goal

pub returns-clause-items : goal.returns-clause-items
returns-clause-items c = c.push_word.ensures.items ∙ ap (λ bits. c.args.self.now.items ++ bits) (low_first-bool c.args.bit)
