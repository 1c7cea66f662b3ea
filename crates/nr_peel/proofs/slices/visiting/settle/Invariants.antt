use Rattle.nr_peel.proofs.Common.{◌≡◌, ◌<◌, ◌≤◌, ◌==◌, ◌&&◌, ℕ, not, length, any_below, slice_index}
use Rattle.nr_peel.proofs.Common.{slice}
use Rattle.nr_peel.proofs.slices.visiting.settle.Given as goal

-- the rows so far have their sets
abbrev pub invariant-loop-t : goal.invariant-loop-t
invariant-loop-t l = record {
  lone : (j u : ℕ) → j < 64 → u < l.t → slice l.some j u ≡ (slice l.initial.some j u && not (slice l.more j u));
  later : (u : ℕ) → l.t ≤ u → slice_index l.some u ≡ slice_index l.initial.some u;
  any : not (l.any == 0) ≡ any_below (λ u. not (slice_index l.some u == 0)) l.t;
  long : length l.some ≡ length l.initial.some;
}
