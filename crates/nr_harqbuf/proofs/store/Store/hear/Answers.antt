use Rattle.nr_harqbuf.proofs.Common.{ap, length, arith, HeardBits}
use Rattle.nr_harqbuf.proofs.KeptBitFacts.{length-kept, heard_again, heard_first}
use Rattle.nr_harqbuf.proofs.store.Store.hear.Goals as goal

pub get-requires : goal.get-requires
get-requires c = omega (
  arith,
  length-kept c.self.inside.marks.heard.items c.self.inside.marks.value.items,
  ap (λ (s : HeardBits). length s.first) c.self.view_is,
  c.requires,
)

pub set-requires : goal.set-requires
set-requires c = omega (
  arith,
  length-kept c.self.inside.marks.heard.items c.self.inside.marks.value.items,
  ap (λ (s : HeardBits). length s.first) c.self.view_is,
  c.requires,
)

pub set-requires-else-get : goal.set-requires-else-get
set-requires-else-get c = omega (
  arith,
  length-kept c.self.inside.marks.heard.items c.self.inside.marks.value.items,
  ap (λ (s : HeardBits). length s.first) c.self.view_is,
  c.requires,
  c.self.inside.marks.both,
)

pub returns-then-get : goal.returns-then-get
returns-then-get c = grind (arith, heard_again)

pub returns-else-get : goal.returns-else-get
returns-else-get c = grind (arith, length-kept, heard_first)
