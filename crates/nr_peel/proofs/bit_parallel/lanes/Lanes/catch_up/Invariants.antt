use Rattle.nr_peel.proofs.{Common.lifted_checks, SeenCountFacts.IsLooking}
use Rattle.nr_peel.proofs.bit_parallel.lanes.Lanes.catch_up.Given as goal

-- the entries before entry k were looked at
abbrev pub invariant-loop-k : goal.invariant-loop-k
invariant-loop-k g l = IsLooking (lifted_checks l.lifted) l.i l.k l.visits l.initial.self l.self l.initial.counts l.counts
