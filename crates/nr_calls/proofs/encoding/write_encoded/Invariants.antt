use Rattle.nr_calls.proofs.Common.{◌≡◌, ℕ, ◌<◌, get_or, encoded_octet, encoded_of}
use Rattle.nr_calls.proofs.encoding.write_encoded.Given as goal

-- the octets so far
abbrev pub invariant-loop-n : goal.invariant-loop-n
invariant-loop-n l = (k : ℕ) → k < l.n → get_or l.out k 0 ≡ encoded_octet (encoded_of l.coded) l.octets k
