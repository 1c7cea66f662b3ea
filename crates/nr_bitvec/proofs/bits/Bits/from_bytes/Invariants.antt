use Rattle.nr_bitvec.proofs.Common.{◌≡◌, vec_capacity, octet_place, Loads}
use Rattle.nr_bitvec.proofs.bits.Bits.from_bytes.Given as goal

-- the words of the octets so far, and room for the others
abbrev pub invariant-loop-i : goal.invariant-loop-i
invariant-loop-i l = record { loads : Loads (octet_place l.octets) l.words.items l.i; room : vec_capacity l.words ≡ l.count }

abbrev pub invariant-loop-i-2 : goal.invariant-loop-i-2
invariant-loop-i-2 l = record { loads : Loads (octet_place l.octets) l.words.items l.i; room : vec_capacity l.words ≡ l.count }
