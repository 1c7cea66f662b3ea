use Rattle.nr_peel.proofs.Common.{◌-◌, ◌*◌, lifted_checks, TurnsGoOn, full_rows}
use Rattle.nr_peel.proofs.bit_parallel.sweep.Sweep.propagate.Given as goal

-- the state is in order
abbrev pub invariant-passes : goal.invariant-passes
invariant-passes g l = record { on : TurnsGoOn (lifted_checks l.lifted) l.fn.self l.self l.fn.progress l.progress }

-- the rows that have unknown positions by their counts
abbrev pub decreases-passes : goal.decreases-passes
decreases-passes g l = (lifted_checks l.lifted).rows * l.lifted.plan.z - full_rows (lifted_checks l.lifted) l.self
