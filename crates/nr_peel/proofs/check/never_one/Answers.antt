use Rattle.nr_peel.proofs.Common.{◌≢◌, ◌*◌, refl, ap, arith, count_by, stands, lifted_checks}
use Rattle.nr_peel.proofs.StoppingCheckFacts.{row_at_number}
use Rattle.nr_peel.proofs.check.never_one.Goals as goal

pub returns : goal.returns
returns c =
    let ck = lifted_checks c.args.lifted.now in
    let all = ap (λ n. n * ck.lanes) c.rows-rows.ensures in (
      λ _. row_at_number (λ i t. count_by (λ p. stands p c.args.set.now) (ck.row i t) ≢ 1) ck.rows ck.lanes
          (λ j lt. c.loop-k.invariant j (omega (arith, lt, all, c.loop-k-test.false))),
      λ _. refl,
    )
