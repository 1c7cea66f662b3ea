-- Definitions that only the proofs need, beside those of State.antt.
use Rattle.std.specs.Prelude.{ℕ}
use Rattle.nr_ldpcenc.specs.Rows.{plan_checks, Checks}
use Rattle.nr_peel.specs.{Peeling.Peeling, State.view_of, declared.bit_parallel.sweep.Sweep.Sweep, declared.lifted.Lifted.Lifted}
use Rattle.nr_peel.specs.declared.progress.Progress.{Progress}

-- the parity checks of a lifted table
abbrev pub lifted_checks : Lifted → Checks
lifted_checks l = plan_checks l.table.now l.plan

-- what is seen of a peeler with one sweep
abbrev pub sweep_view : {W D : ℕ} → Lifted → Progress → Sweep W D → Peeling
sweep_view l p s = view_of l p s.lanes.known.items s.lanes.bits.items s.counts.operations
