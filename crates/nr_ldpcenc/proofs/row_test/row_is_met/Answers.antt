use Rattle.nr_ldpcenc.proofs.Common.{nat_tests, arith, cases_lt, place-zeros}
use Rattle.nr_ldpcenc.proofs.row_test.row_is_met.Goals as goal

pub returns : goal.returns
returns g c = grind (arith, nat_tests, place-zeros, cases_lt)
