use Rattle.nr_peel.proofs.Common.{◌+◌, cond, bit, IsWritten}
use Rattle.nr_peel.proofs.bit_parallel.learning.read_lane.Given as goal

-- the words before word i are read
abbrev pub invariant-loop-i : goal.invariant-loop-i
invariant-loop-i g l = IsWritten l.size l.i (λ t. cond (bit l.bits.items (l.from + t)) 1 0) l.lane l.initial.lane
