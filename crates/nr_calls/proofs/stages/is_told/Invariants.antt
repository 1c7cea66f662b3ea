use Rattle.std.proofs.Common.{◌≡◌}
use Rattle.std.specs.List.{list_all, range_with_len}
use Rattle.nr_ratematch.specs.Selection.{Circular}
use Rattle.nr_calls.specs.Stages.{is_told_at}
use Rattle.nr_calls.proofs.stages.is_told.Given as goal

-- the octets so far
abbrev pub invariant-loop-n : goal.invariant-loop-n
invariant-loop-n l = (b : Circular) → b.z ≡ l.plan.z → b.kdash ≡ l.kdash → b.k ≡ l.plan.k → l.told
    ≡ list_all (is_told_at b l.d) (range_with_len 0 l.n)
