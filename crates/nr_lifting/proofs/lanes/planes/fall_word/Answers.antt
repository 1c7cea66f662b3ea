use Rattle.nr_lifting.proofs.{Names.arith, Names.bit_at_xor, PlaneCountFacts.lowered_digit}
use Rattle.nr_lifting.proofs.lanes.planes.fall_word.Goals as goal

pub returns : goal.returns
returns c = record {
  falls = λ j _. bit_at_xor c.args.word c.args.falling j;
  borrows = λ j short. lowered_digit c.args.word c.args.falling j (omega arith) short;
}
