use Rattle.nr_lifting.proofs.DoubledJoinFacts.{Carries, carries_more, gains_doubled, joined_all, moved, moved_all, moved_last}
use Rattle.nr_lifting.proofs.Names.{ap, arith, length-replicate, refl, subst, ℕ, ◌*◌, ◌+◌, ◌∙◌}
use Rattle.nr_lifting.proofs.{LaneBitFacts.clear-later, LaneBitFacts.made_next, LaneBitFacts.word_bit, LaneWordFacts.gained_low}
use Rattle.nr_lifting.proofs.DoubledJoinFacts.{moved_next, moved_word, gained_clear}
use Rattle.nr_lifting.proofs.lanes.doubled_words.union_words.Goals as goal

-- the next word is moved up
pub loop-i-preserved : goal.loop-i-preserved
loop-i-preserved g c = record {
  made = made_next _ _ _ _ _ _ c.loop-i.invariant.made
      (omega (arith, c.loop-i.invariant.made.long, length-replicate {A = ℕ} g.row.W 0)) refl (λ j short.
      moved_word c.args.size c.loop-i.i _ c.args.words.now refl c.loop-i.past c.loop-i.invariant.carry j short
      ∙ ap (moved c.args.size c.args.words.now) (omega arith));
  carry = carries_more c.args.size c.loop-i.i _ c.args.words.now refl (omega arith);
}

-- the next word is joined
pub loop-k-preserved : goal.loop-k-preserved
loop-k-preserved g c =
    made_next _ _ _ _ _ _ c.loop-k.invariant (omega arith) refl (λ j short.
    gained_low 0 c.loop-k.k _ _ _ j short (c.loop-k.invariant.kept _ (omega arith))
    (word_bit c.loop-k.k j _ c.args.words.now refl short))

-- the next word is joined at the place that it is moved up to
pub loop-m-preserved : goal.loop-m-preserved
loop-m-preserved g c =
    moved_next c.args.size c.loop-m.m _ c.loop-m.doubled _ c.args.words.now c.loop-m.invariant (omega arith) _ refl (λ j short.
    word_bit c.loop-m.m j _ c.loop-i.up refl short ∙ c.loop-i.invariant.made.done (64 * c.loop-m.m + j) (omega (arith, short))
    ∙ ap (moved c.args.size c.args.words.now) (omega arith))

-- what is left over is joined
pub returns-then-word : goal.returns-then-word
returns-then-word g c =
    let none = clear-later c.args.size (64 * g.row.W) c.args.words.now c.requires.clear c.requires.few in
    let carry = subst (λ n. Carries c.args.size n c.args.words.now c.loop-i.past) {x = c.loop-i.i} {y = g.row.W}
    (omega arith) c.loop-i.invariant.carry in
    let is = joined_all c.args.size _ c.loop-k.doubled c.args.doubled.now c.args.words.now c.loop-k.k c.loop-k.invariant
    (clear-later c.args.size (64 * c.loop-k.k) c.args.words.now c.requires.clear (omega arith))
    (moved_last c.args.size c.loop-m.m _ c.loop-m.doubled c.loop-k.doubled c.args.words.now c.loop-m.invariant
    (omega arith) g.row.W c.loop-i.past carry (omega arith) none refl) in
    record {
      joined = gains_doubled c.args.size _ c.args.doubled.now c.args.words.now c.requires.clear is;
      doubled_clear = gained_clear c.args.size _ c.args.doubled.now c.args.words.now c.requires.clear is c.requires.doubled_clear;
    }

-- no word is left over if the second copy fills its words
pub returns-else-word : goal.returns-else-word
returns-else-word g c =
    let none = clear-later c.args.size (64 * g.row.W) c.args.words.now c.requires.clear c.requires.few in
    let is = joined_all c.args.size _ c.loop-k.doubled c.args.doubled.now c.args.words.now c.loop-k.k c.loop-k.invariant
    (clear-later c.args.size (64 * c.loop-k.k) c.args.words.now c.requires.clear (omega arith))
    (moved_all c.args.size g.row.W c.loop-m.doubled c.loop-k.doubled c.args.words.now none _ c.loop-m.invariant (omega arith)) in
    record {
      joined = gains_doubled c.args.size _ c.args.doubled.now c.args.words.now c.requires.clear is;
      doubled_clear = gained_clear c.args.size _ c.args.doubled.now c.args.words.now c.requires.clear is c.requires.doubled_clear;
    }
