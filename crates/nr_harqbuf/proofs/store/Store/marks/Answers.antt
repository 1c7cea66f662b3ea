use Rattle.nr_harqbuf.proofs.{Common.arith, Common.sym, KeptBitFacts.kept-at, KeptBitFacts.length-kept}
use Rattle.nr_harqbuf.proofs.store.Store.marks.Goals as goal

pub returns : goal.returns
returns c = rw (← c.self.view_is) (record {
  long = sym (length-kept c.self.inside.marks.heard.items c.self.inside.marks.value.items);
  marks = λ p. grind (arith, kept-at);
  bits = λ p b is. grind (arith, kept-at);
})
