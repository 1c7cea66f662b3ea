-- The places of the words so far have their other bits.
use Rattle.nr_linkcommands.proofs.{Common.bit, Common.is_named, Common.◌⊕◌, ReceptionFacts.IsTurned}
use Rattle.nr_linkcommands.proofs.channel.flipped.Given as goal

abbrev pub invariant-loop-i : goal.invariant-loop-i
invariant-loop-i l =
    IsTurned (bit l.fn.bits.items) (λ m. is_named l.flip m ⊕ bit l.fn.bits.items m) l.bits.items l.count l.i
