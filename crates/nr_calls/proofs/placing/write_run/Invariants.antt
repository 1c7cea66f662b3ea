use Rattle.nr_calls.proofs.Common.{◌≡◌, ◌≢◌, ◌+◌, ◌*◌, ◌<◌, ℕ, get_or}
use Rattle.nr_calls.proofs.placing.write_run.Given as goal

-- the numbers so far
abbrev pub invariant-loop-j : goal.invariant-loop-j
invariant-loop-j l = record {
  within : (i : ℕ) → i < l.j → get_or l.out (l.from + i * l.step) 0 ≡ l.first + i;
  others : (m : ℕ) → ((i : ℕ) → i < l.j → m ≢ l.from + i * l.step) → get_or l.out m 0 ≡ get_or l.fn.out m 0;
}
