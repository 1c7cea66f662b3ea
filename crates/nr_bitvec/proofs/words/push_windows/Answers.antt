use Rattle.nr_bitvec.proofs.Common.{rules, refl, arith, ◌∙◌}
use Rattle.nr_bitvec.proofs.PushedWordFacts.{follows_none, follows_more, whole-word, turned-word}
use Rattle.nr_bitvec.proofs.words.push_windows.Goals as goal

pub loop-i-init : goal.loop-i-init
loop-i-init c = record { loads = follows_none c.args.words.now.items c.args.from.now _; room = refl }

-- a word as it is
pub loop-i-preserved : goal.loop-i-preserved
loop-i-preserved c = search (rules, follows_more, whole-word)

pub loop-i-2-init : goal.loop-i-2-init
loop-i-2-init c = record { loads = follows_none c.args.words.now.items c.args.from.now _; room = refl }

-- a word made of two
pub loop-i-2-preserved : goal.loop-i-2-preserved
loop-i-2-preserved c = record {
  loads = follows_more c.args.words.now.items c.args.from.now c.loop-i-2.words.items _ _ c.loop-i-2.i _ c.loop-i-2.invariant.loads
      c.push_reserved-in-loop-i-2.ensures.items
      (λ j. turned-word c.args.from.now c.args.word c.args.turn c.loop-i-2.i j ((c.type_inv.from _).fits) c.requires.turn
      (omega (arith, c.if-turn-eq0.false)));
  room = c.push_reserved-in-loop-i-2.ensures.capacity ∙ c.loop-i-2.invariant.room;
}
