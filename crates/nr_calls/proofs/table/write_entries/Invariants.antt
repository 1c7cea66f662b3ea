use Rattle.nr_calls.proofs.Common.{◌≡◌, ℕ, ◌<◌, get_or, kept_listed}
use Rattle.nr_calls.proofs.PlacedEntryFacts.{no_entry}
use Rattle.nr_calls.proofs.table.write_entries.Given as goal

-- the entries so far
abbrev pub invariant-loop-n : goal.invariant-loop-n
invariant-loop-n l = (k : ℕ) → k < l.n → get_or l.out k no_entry ≡ get_or (kept_listed l.table) k no_entry
