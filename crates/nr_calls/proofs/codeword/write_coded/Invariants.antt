use Rattle.nr_calls.proofs.Common.{◌≡◌, ℕ, ◌<◌, get_or, coded_octet, coded_of}
use Rattle.nr_calls.proofs.codeword.write_coded.Given as goal

-- the octets so far
abbrev pub invariant-loop-n : goal.invariant-loop-n
invariant-loop-n l = (k : ℕ) → k < l.n → get_or l.out k 0 ≡ coded_octet (coded_of l.coded) k
