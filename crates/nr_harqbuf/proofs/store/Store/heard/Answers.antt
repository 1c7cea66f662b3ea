use Rattle.nr_harqbuf.proofs.Common.{ap, length, arith, HeardBits}
use Rattle.nr_harqbuf.proofs.KeptBitFacts.{length-kept, kept-at}
use Rattle.nr_harqbuf.proofs.store.Store.heard.Goals as goal

pub get-requires : goal.get-requires
get-requires c = omega (
  arith,
  length-kept c.self.inside.marks.heard.items c.self.inside.marks.value.items,
  ap (λ (s : HeardBits). length s.first) c.self.view_is,
  c.requires,
)

pub returns-then-get : goal.returns-then-get
returns-then-get c = grind (arith, kept-at)

pub returns-else-get : goal.returns-else-get
returns-else-get c = grind (arith, kept-at)
