use Rattle.std.proofs.lemmas.Nat.{le_or_l, le_or_r}
use Rattle.nr_lifting.proofs.Names.{arith, bit_at-zero, cases_eq, eqb-true, nat_tests, place_past}
use Rattle.nr_lifting.proofs.LaneBitFacts.{zero_word}
use Rattle.nr_lifting.proofs.lanes.lane_words.is_blank.Goals as goal

pub loop-i-preserved : goal.loop-i-preserved
loop-i-preserved g c = grind (arith, cases_eq, le_or_l, le_or_r)

pub returns : goal.returns
returns g c = grind (arith, nat_tests, eqb-true, bit_at-zero, place_past, zero_word)
