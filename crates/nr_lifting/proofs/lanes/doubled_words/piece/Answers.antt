use Rattle.nr_lifting.proofs.{Names.arith, DoubledWordFacts.piece_bit}
use Rattle.nr_lifting.proofs.lanes.doubled_words.piece.Goals as goal

pub returns : goal.returns
returns c = λ j short. piece_bit c.args.words.now c.args.word c.args.turn j (omega arith) c.requires.turn short
