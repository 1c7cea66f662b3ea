use Rattle.nr_calls.proofs.Common.{◌≡◌, ℕ, ◌+◌, ◌*◌, ◌<◌, false, get_or, length, bit, positions_of, is_one}
use Rattle.nr_calls.proofs.stages.full_word.Given as goal

-- the bits so far, after two columns of zeros
abbrev pub invariant-loop-n : goal.invariant-loop-n
invariant-loop-n l = record {
  long : length l.word ≡ positions_of l.plan;
  front : (p : ℕ) → p < 2 * l.plan.z → bit l.word p ≡ false;
  so_far : (k : ℕ) → k < l.n → bit l.word (2 * l.plan.z + k) ≡ is_one (get_or l.d k 0);
}
