use Rattle.nr_calls.proofs.Common.{◌≡◌, ℕ, ◌<◌, get_or, length, bit, positions_of, is_one}
use Rattle.nr_calls.proofs.encoding.word_on.Given as goal

-- the bits so far
abbrev pub invariant-loop-i : goal.invariant-loop-i
invariant-loop-i l = record {
  long : length l.word ≡ positions_of l.plan;
  so_far : (k : ℕ) → k < l.i → bit l.word k ≡ is_one (get_or l.octets k 0);
}
