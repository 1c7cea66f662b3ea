use Rattle.nr_calls.proofs.Common.{◌≡◌, ◌+◌, ◌*◌, ◌<◌, ℕ, length, slice_index}
use Rattle.nr_calls.proofs.batch.seeds_of.Given as goal

-- the rounds so far
abbrev pub invariant-loop-j : goal.invariant-loop-j
invariant-loop-j l = record {
  done : (i : ℕ) → i < l.j → slice_index l.own i ≡ slice_index l.seeds (i * l.t + l.k);
  long : length l.own ≡ 64;
}
