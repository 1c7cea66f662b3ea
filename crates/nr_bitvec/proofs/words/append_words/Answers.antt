use Rattle.nr_bitvec.proofs.Common.{rules, refl, arith, ◌∙◌}
use Rattle.nr_bitvec.proofs.JoinedWordFacts.{joins_none, joins_more, joins-fit}
use Rattle.nr_bitvec.proofs.words.append_words.Goals as goal

pub loop-i-init : goal.loop-i-init
loop-i-init c = grind (arith, joins_none)

pub flip-requires : goal.flip-requires
flip-requires c = search (rules, joins-fit)

pub loop-i-preserved : goal.loop-i-preserved
loop-i-preserved c = record {
  joined = joins_more c.args.len c.args.words.now.items c.args.more.now c.loop-i.words.items c.flip.new.words.items c.loop-i.i _
      c.loop-i.invariant.joined refl ((c.type_inv.more c.loop-i.i).fits) (omega (arith, c.flip.ensures.len)) c.flip.ensures.places;
  room = c.flip.ensures.capacity ∙ c.loop-i.invariant.room;
}
