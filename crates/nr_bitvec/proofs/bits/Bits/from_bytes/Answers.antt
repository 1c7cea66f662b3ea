use Rattle.nr_bitvec.proofs.Common.{◌∙◌, arith, octet_place}
use Rattle.nr_bitvec.proofs.PushedWordFacts.{loads_more, group-place, octets-items}
use Rattle.nr_bitvec.proofs.bits.Bits.from_bytes.Goals as goal

-- the next eight octets
pub loop-i-preserved : goal.loop-i-preserved
loop-i-preserved c = record {
  loads = loads_more (octet_place c.args.octets.now) c.loop-i.words.items c.push_reserved.new.self.items c.loop-i.i
      c.word_of_octets.result c.loop-i.invariant.loads c.push_reserved.ensures.items
      (λ j h. c.word_of_octets.ensures j h ∙ group-place c.args.octets.now c.loop-i.i _ j (omega arith) h);
  room = c.push_reserved.ensures.capacity ∙ c.loop-i.invariant.room;
}

-- what is left
pub loop-i-2-preserved : goal.loop-i-2-preserved
loop-i-2-preserved c = record {
  loads = loads_more (octet_place c.args.octets.now) c.loop-i-2.words.items c.push_reserved-in-loop-i-2.new.self.items c.loop-i-2.i
      c.word_of_octets-in-loop-i-2.result c.loop-i-2.invariant.loads c.push_reserved-in-loop-i-2.ensures.items
      (λ j h. c.word_of_octets-in-loop-i-2.ensures j h ∙ group-place c.args.octets.now c.loop-i-2.i _ j (omega arith) h);
  room = c.push_reserved-in-loop-i-2.ensures.capacity ∙ c.loop-i-2.invariant.room;
}

pub returns : goal.returns
returns c = grind (arith, octets-items)
