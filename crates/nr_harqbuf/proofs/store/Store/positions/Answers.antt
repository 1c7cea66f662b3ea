use Rattle.nr_harqbuf.proofs.{Common.length, Common.sym, Common.ap, Common.◌∙◌, Common.HeardBits, KeptBitFacts.length-kept}
use Rattle.nr_harqbuf.proofs.store.Store.positions.Goals as goal

pub returns : goal.returns
returns c = c.len.ensures.value ∙ sym (length-kept c.self.inside.marks.heard.items c.self.inside.marks.value.items)
    ∙ ap (λ (s : HeardBits). length s.first) c.self.view_is
