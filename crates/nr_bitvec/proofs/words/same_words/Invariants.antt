use Rattle.nr_bitvec.proofs.Common.{◌≡◌, ℕ, ◌<◌, get_or}
use Rattle.nr_bitvec.proofs.words.same_words.Given as goal

-- the words so far are the same
abbrev pub invariant-loop-i : goal.invariant-loop-i
invariant-loop-i l = (k : ℕ) → k < l.i → get_or l.a k 0 ≡ get_or l.b k 0
