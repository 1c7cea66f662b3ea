use Rattle.nr_bitvec.proofs.{Common.rules, Common.arith, PlaceFacts.length-unpacked}
use Rattle.nr_bitvec.proofs.MergedWordFacts.{merges_more, merged-packed, merged-bit}
use Rattle.nr_bitvec.proofs.bits.Bits.union_with.Goals as goal

-- the lists have as many bits, and so as many words
pub loop-i-init : goal.loop-i-init
loop-i-init c = grind (arith, length-unpacked)

pub loop-i-preserved : goal.loop-i-preserved
loop-i-preserved c = record {
  merges = merges_more c.self.inside.words.items c.more.inside.words.items c.loop-i.self-inside.words.items c.loop-i.i
      c.index_mut.result.now c.index.result.now c.loop-i.invariant.merges (omega arith)
      (omega arith) c.index_mut.ensures.value c.index.ensures;
  room = c.loop-i.invariant.room;
  len = c.loop-i.invariant.len;
  same = c.loop-i.invariant.same;
}

pub invariant_of-self : goal.invariant_of-self
invariant_of-self c = search (rules, merged-packed)

pub returns-clause-joined : goal.returns-clause-joined
returns-clause-joined c =
    rw (← c.self.view_is, ← c.more.view_is, c.loop-i.invariant.len)
    (merged-bit c.self.inside.len c.more.inside.len c.loop-i.i c.self.inside.words.items c.more.inside.words.items
    c.loop-i.self-inside.words.items c.self.invariant c.more.invariant c.loop-i.invariant.same c.loop-i.invariant.merges
    (omega arith))
