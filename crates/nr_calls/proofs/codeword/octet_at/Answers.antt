use Rattle.nr_calls.proofs.Common.{◌≡◌, ◌+◌, ◌*◌, true, refl, arith, filler, nat_tests}
use Rattle.nr_calls.proofs.codeword.octet_at.Goals as goal

pub returns-then-contains : goal.returns-then-contains
returns-then-contains c =
    let p = c.args.coded.now.plan in
    let in_it : filler p.kdash p.k (c.args.n + 2 * p.z) ≡ true = grind (arith, nat_tests) in
    rw in_it refl
