use Rattle.nr_peel.proofs.Common.{◌≤◌, lifted_checks}
use Rattle.nr_peel.proofs.bit_parallel.sweep.Sweep.awake.Given as goal

-- no more row blocks than there are
abbrev pub invariant-loop-i : goal.invariant-loop-i
invariant-loop-i g l = record { few : l.rows ≤ (lifted_checks l.lifted).rows }
