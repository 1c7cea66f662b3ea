use Rattle.nr_calls.proofs.Common.{◌≡◌, ◌<◌, ℕ, length, filler, slice}
use Rattle.nr_calls.proofs.side.fillers.Given as goal

-- the positions so far
abbrev pub invariant-loop-p : goal.invariant-loop-p
invariant-loop-p l = record {
  long : length l.known.items ≡ l.p;
  each : (j p : ℕ) → j < 64 → p < l.p → slice l.known.items j p ≡ filler l.plan.kdash l.plan.k p;
}
