use Rattle.nr_calls.proofs.Common.{◌≡◌, ℕ, ◌/◌, ◌*◌, ◌^◌, ◌<◌, get_or, bit_at}
use Rattle.nr_calls.proofs.crossing.write_word.Given as goal

-- the octets of the bits so far, and the bits that are left
abbrev pub invariant-loop-i : goal.invariant-loop-i
invariant-loop-i l = record {
  left : l.rest ≡ l.word / 2 ^ (8 * l.i);
  so_far : (k : ℕ) → k < 8 * l.i → get_or l.out k 0 ≡ bit_at l.word k;
}

-- the bits so far, an octet for each, and the bits that are left
abbrev pub invariant-loop-i-2 : goal.invariant-loop-i-2
invariant-loop-i-2 l = record {
  left : l.rest ≡ l.word / 2 ^ l.i;
  so_far : (k : ℕ) → k < l.i → get_or l.out k 0 ≡ bit_at l.word k;
}
