use Rattle.nr_ldpcenc.proofs.Common.{◌≡◌, ◌+◌, ◌-◌, ◌*◌, ◌==◌, length, sym, ap, ◌∙◌, inl, inr, arith}
use Rattle.nr_ldpcenc.proofs.Common.{cases_lt, bit}
use Rattle.nr_ldpcenc.proofs.word_blocks.write_block.Goals as goal

pub returns-else-this-eq0-clause-ready : goal.returns-else-this-eq0-clause-ready
returns-else-this-eq0-clause-ready g c = λ part q past.
    let z = g.row.Z in
    let j = c.args.j in
    let at : j * z + (q - j * z) ≡ q = omega (arith, past) in
    ap (bit c.put_words.new.self.items) (sym at) ∙ elim (cases_lt (q - j * z) (64 * length c.words.result.now)) [
      | inl h ↦ c.put_words.ensures.within (q - j * z) h
          ∙ ap (λ n. n == 1) (c.words.ensures.clear (q - j * z) (omega (arith, past)))
      | inr h ↦ c.put_words.ensures.after (j * z + (q - j * z)) (omega (arith, h))
    ]

pub returns-else-this-eq0-clause-block : goal.returns-else-this-eq0-clause-block
returns-else-this-eq0-clause-block g c = λ t lt. c.put_words.ensures.within t (omega (arith, lt)) ∙ c.words.ensures.bits t
