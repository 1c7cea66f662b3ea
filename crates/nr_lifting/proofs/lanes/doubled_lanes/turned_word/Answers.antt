use Rattle.nr_lifting.proofs.DoubledWordFacts.{turned_bit}
use Rattle.nr_lifting.proofs.lanes.doubled_lanes.turned_word.Goals as goal

pub returns : goal.returns
returns c = λ t below. turned_bit c.args.word c.args.size c.args.p t c.requires.rotation c.requires.few c.requires.clear below
