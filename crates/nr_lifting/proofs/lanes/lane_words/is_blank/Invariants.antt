use Rattle.nr_lifting.proofs.Names.{get_or, ℕ, ◌<◌, ◌≡◌, ◌≤◌}
use Rattle.nr_lifting.proofs.lanes.lane_words.is_blank.Given as goal

-- the words so far have no bit that isn't there, and if all of them are zero there is none
abbrev pub invariant-loop-i : goal.invariant-loop-i
invariant-loop-i g l =
    ((k : ℕ) → k < l.i → get_or l.lane k 0 ≤ l.all) × (((k : ℕ) → k < l.i → get_or l.lane k 0 ≡ 0) → l.all ≡ 0)
