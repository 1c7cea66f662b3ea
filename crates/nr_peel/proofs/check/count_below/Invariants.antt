use Rattle.nr_peel.proofs.Common.{◌≡◌, nat_lt, take, count_by}
use Rattle.nr_peel.proofs.check.count_below.Given as goal

-- how many positions so far are below the bound
abbrev pub invariant-loop-pos : goal.invariant-loop-pos
invariant-loop-pos l = l.count ≡ count_by (λ p. nat_lt p l.bound) (take l.pos-index l.set)
