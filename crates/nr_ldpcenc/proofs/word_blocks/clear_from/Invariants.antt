-- The bits as far as the words so far go are zeros.
use Rattle.nr_ldpcenc.proofs.Common.{◌+◌, ◌*◌, min, IsClearedTo}
use Rattle.nr_ldpcenc.proofs.word_blocks.clear_from.Given as goal

abbrev pub invariant-loop-i : goal.invariant-loop-i
invariant-loop-i l = IsClearedTo (l.start + min (64 * l.i) l.count) l.from l.bits.items l.fn.bits.items
