use Rattle.nr_bitvec.proofs.{Common.arith, Common.ap, Common.BitList, SameBitsFacts.same-packed, SameBitsFacts.other-lengths}
use Rattle.nr_bitvec.proofs.bits.BitsPartialEq.eq.Goals as goal

pub returns-then-self-other : goal.returns-then-self-other
returns-then-self-other c =
    same-packed c.self.inside.len c.other.inside.len c.self.inside.words.items c.other.inside.words.items c.same_words.result
    c.args.self.now c.args.other.now c.self.invariant c.other.invariant c.if-self-other.true
    (ap (λ (b : BitList). b.items) c.self.view_is) (ap (λ (b : BitList). b.items) c.other.view_is)
    (rw (c.deref.ensures.value, c.deref-then-self-other.ensures.value) at c.same_words.ensures.equal)
    (rw (c.deref.ensures.value, c.deref-then-self-other.ensures.value) at c.same_words.ensures.places)

pub returns-else-self-other : goal.returns-else-self-other
returns-else-self-other c = grind (arith, other-lengths)
