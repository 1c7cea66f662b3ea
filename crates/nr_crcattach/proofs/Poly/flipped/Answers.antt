use Rattle.nr_crcattach.proofs.{Common.arith, FlipFacts.flip-reversed, GeneratorFacts.degree-le}
use Rattle.nr_crcattach.proofs.Poly.flipped.Goals as goal

pub returns-clause-value : goal.returns-clause-value
returns-clause-value c = grind (arith, flip-reversed, degree-le)
