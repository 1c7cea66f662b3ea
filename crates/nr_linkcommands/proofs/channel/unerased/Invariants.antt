-- The marks of the words so far are negated.
use Rattle.nr_linkcommands.proofs.{Common.bit, Common.erased_of, Common.not, ReceptionFacts.IsTurned}
use Rattle.nr_linkcommands.proofs.channel.unerased.Given as goal

abbrev pub invariant-loop-i : goal.invariant-loop-i
invariant-loop-i l =
    IsTurned (bit (erased_of l.erasure l.count)) (λ m. not (bit (erased_of l.erasure l.count) m)) l.marks.items l.count l.i
