use Rattle.nr_peel.proofs.Common.{◌≡◌, ◌-◌, ◌*◌, ◌<◌, ℕ, length, lifted_checks, Within, closure, slice, held}
use Rattle.nr_peel.proofs.slices.sweep_all.Given as goal

-- each set has what it had, and is in its closure
abbrev pub invariant-sweeps : goal.invariant-sweeps
invariant-sweeps l = record {
  up : (j : ℕ) → j < 64 → Within (slice l.initial.known j) (slice l.known j);
  inside : (j : ℕ) → j < 64 → Within (slice l.known j) (closure (lifted_checks l.lifted) (slice l.initial.known j));
  long : length l.known ≡ (lifted_checks l.lifted).size;
  some_long : length l.some ≡ 384;
  more_long : length l.more ≡ 384;
}

-- how many positions the sets don't have
abbrev pub decreases-sweeps : goal.decreases-sweeps
decreases-sweeps l = 64 * (lifted_checks l.lifted).size - held (lifted_checks l.lifted) l.known
