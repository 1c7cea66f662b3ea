-- The parity bits are the remainder times a power of D.
use Rattle.nr_crcattach.proofs.{Common.nat_tests, Common.arith, RemainderFacts.residue-zero, RemainderFacts.residue-zero_only}
use Rattle.std.proofs.{Common.eq-eqb, lemmas.Bool.eqb-true}
use Rattle.nr_crcattach.proofs.divides.Goals as goal

pub returns : goal.returns
returns c = grind (arith, nat_tests, residue-zero_only, eqb-true, eq-eqb, residue-zero)
