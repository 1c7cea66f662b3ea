use Rattle.nr_calls.proofs.Common.{◌≡◌, ◌<◌, ℕ, [], get_or, length, map, AreFillers}
use Rattle.nr_calls.proofs.side.begun.Given as goal

-- the code blocks so far
abbrev pub invariant-loop : goal.invariant-loop
invariant-loop l = record {
  counted : length l.known.items ≡ l.counter;
  each : (r : ℕ) → r < l.counter → AreFillers l.plan (get_or (map (λ words. words.items) l.known.items) r []);
}
