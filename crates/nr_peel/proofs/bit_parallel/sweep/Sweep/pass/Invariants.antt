use Rattle.nr_peel.proofs.Common.{lifted_checks, Passes}
use Rattle.nr_peel.proofs.bit_parallel.sweep.Sweep.pass.Given as goal

-- the row blocks so far had their turns
abbrev pub invariant-loop-i : goal.invariant-loop-i
invariant-loop-i g l =
    record { passes : Passes (lifted_checks l.lifted) l.i l.last l.found l.initial.self l.self l.initial.progress l.progress }
