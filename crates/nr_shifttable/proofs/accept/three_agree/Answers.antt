use Rattle.nr_shifttable.proofs.Common.{◌≡◌, true, false, slice_index, sym, subst, arith, two_agree, each_below, three_agree}
use Rattle.nr_shifttable.proofs.BoundedLoopFacts.{each_below-not}
use Rattle.nr_shifttable.proofs.accept.three_agree.Goals as goal

pub returns-then-not-two_agree : goal.returns-then-not-two_agree
unfolding three_agree
returns-then-not-two_agree c =
    let fails : two_agree (slice_index c.args.a.now c.loop-set.set) (slice_index c.args.b.now c.loop-set.set)
    (slice_index c.args.c.now c.loop-set.set) ≡ false = cc in
    sym (each_below-not 8 c.loop-set.set
    (λ k. two_agree (slice_index c.args.a.now k) (slice_index c.args.b.now k) (slice_index c.args.c.now k)) (omega arith) fails)

pub returns : goal.returns
unfolding three_agree
returns c =
    let last : c.loop-set.set ≡ 8 = omega arith in
    subst (λ n. true ≡ each_below n
    (λ k. two_agree (slice_index c.args.a.now k) (slice_index c.args.b.now k) (slice_index c.args.c.now k))) last
    (sym c.loop-set.invariant)
