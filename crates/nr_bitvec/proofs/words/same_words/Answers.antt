use Rattle.nr_bitvec.proofs.{Common.◌∙◌, Common.arith, Common.same_lists, Common.get_or_default, SameBitsFacts.same-word}
use Rattle.nr_bitvec.proofs.words.same_words.Goals as goal

-- a word that differs has another place
pub returns-then-word-b-clause-places : goal.returns-then-word-b-clause-places
returns-then-word-b-clause-places c = grind (arith, same-word)

pub returns-clause-equal : goal.returns-clause-equal
returns-clause-equal c = λ yes.
    same_lists c.args.a.now c.args.b.now (omega (arith, c.if-a-b.false)) (λ k d h.
    get_or_default c.args.a.now k d 0 h ∙ c.loop-i.invariant k (omega (arith, h, c.loop-i-test.false))
    ∙ get_or_default c.args.b.now k 0 d (omega (arith, h, c.if-a-b.false)))
