use Rattle.nr_calls.proofs.Common.{◌≡◌, true, refl, arith, nat_tests}
use Rattle.std.specs.Prelude.{nat_le}
use Rattle.nr_calls.specs.Rates.{nr_buffer_said}
use Rattle.nr_calls.proofs.rates.buffer_on.Goals as goal

pub returns : goal.returns
unfolding nr_buffer_said
returns c =
    let version : nat_le c.args.rv 3 ≡ true = grind (arith, nat_tests) in
    rw (c.in_ok-plan.ensures.said, ← c.in-Ok.ensures, version, c.ncb.ensures, c.start.ensures.value) refl
