use Rattle.nr_peel.proofs.Common.{◌≡◌, ◌<◌, ℕ, false, length, slice}
use Rattle.nr_peel.proofs.slices.visiting.clear.Given as goal

-- the words so far are zero
abbrev pub invariant-loop-t : goal.invariant-loop-t
invariant-loop-t l = record {
  zero : (j u : ℕ) → u < l.t → slice l.words j u ≡ false;
  long : length l.words ≡ length l.initial.words;
}
