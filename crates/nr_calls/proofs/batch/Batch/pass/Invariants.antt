use Rattle.nr_calls.proofs.Common.{◌≡◌, ◌++◌, ◌<◌, ℕ, replicate, column}
use Rattle.nr_calls.proofs.batch.Batch.pass.Given as goal

-- the zeros so far
abbrev pub invariant-loop : goal.invariant-loop
invariant-loop l = record {
  left : (j : ℕ) → j < 64 → column l.self.left.items j ≡ column l.fn.self.left.items j ++ replicate l.counter 0;
  erased : (j : ℕ) → j < 64 → column l.self.erased.items j ≡ column l.fn.self.erased.items j ++ replicate l.counter 0;
  known : l.self.known ≡ l.fn.self.known;
  still : l.self.delivered ≡ l.fn.self.delivered;
}
