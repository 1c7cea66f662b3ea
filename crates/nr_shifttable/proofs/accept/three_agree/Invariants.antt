use Rattle.nr_shifttable.proofs.Common.{◌≡◌, true, slice_index, two_agree, each_below}
use Rattle.nr_shifttable.proofs.accept.three_agree.Given as goal

abbrev pub invariant-loop-set : goal.invariant-loop-set
invariant-loop-set l = each_below l.set (λ k. two_agree (slice_index l.a k) (slice_index l.b k) (slice_index l.c k)) ≡ true
