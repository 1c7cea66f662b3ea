-- The bits of the words so far have been copied.
use Rattle.nr_ldpcenc.proofs.Common.{◌*◌, min, Copies}
use Rattle.nr_ldpcenc.proofs.word.copy_bits.Given as goal

abbrev pub invariant-loop-i : goal.invariant-loop-i
invariant-loop-i l = Copies (min (64 * l.i) l.count) l.count l.from.items l.initial.bits.items l.bits.items
