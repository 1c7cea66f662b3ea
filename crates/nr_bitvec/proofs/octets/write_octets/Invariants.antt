use Rattle.nr_bitvec.proofs.Common.{◌*◌, take, HoldsOctets}
use Rattle.nr_bitvec.proofs.octets.write_octets.Given as goal

-- the octets of the words so far
abbrev pub invariant-loop-i : goal.invariant-loop-i
invariant-loop-i l = HoldsOctets l.words (take (8 * l.i) l.octets) l.i
