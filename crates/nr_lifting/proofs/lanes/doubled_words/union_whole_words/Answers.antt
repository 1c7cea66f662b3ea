use Rattle.nr_lifting.proofs.Names.{ap, arith, place, refl, sym, ℕ, ◌*◌, ◌+◌, ◌/◌, ◌∙◌, ◌≤◌}
use Rattle.nr_lifting.proofs.{LaneBitFacts.made_next, LaneBitFacts.word_bit, LaneWordFacts.gained_low}
use Rattle.nr_lifting.proofs.DoubledJoinFacts.{gains_doubled, joined_all, moved-high, moved_all, moved_next, gained_clear}
use Rattle.nr_lifting.proofs.lanes.doubled_words.union_whole_words.Goals as goal

-- the next word is joined
pub loop-k-preserved : goal.loop-k-preserved
loop-k-preserved g c =
    made_next _ _ _ _ _ _ c.loop-k.invariant (omega arith) refl (λ j short.
    gained_low 0 c.loop-k.k _ _ _ j short (c.loop-k.invariant.kept _ (omega arith))
    (word_bit c.loop-k.k j _ c.args.words.now refl short))

-- the next word is joined again, as many words later as the block has
pub loop-m-preserved : goal.loop-m-preserved
loop-m-preserved g c =
    moved_next c.args.size c.loop-m.m _ c.loop-m.doubled _ c.args.words.now c.loop-m.invariant (omega arith) _ refl (λ j short.
    word_bit c.loop-m.m j _ c.args.words.now refl short ∙ ap (place c.args.words.now) (omega (arith, c.requires.whole))
    ∙ sym (moved-high c.args.size c.args.words.now (64 * (c.args.size / 64 + c.loop-m.m) + j) (omega (arith, c.requires.whole))))

-- The first loop joins the lane into the first copy, the second into the other, which begins at a whole word.
pub returns : goal.returns
returns g c =
    let none = λ (n : ℕ) (all : 64 * g.row.W ≤ 64 * n) (t : ℕ)
    (past : 64 * n ≤ t). c.requires.clear t (omega (arith, c.requires.few, all, past)) in
    let is = joined_all c.args.size _ c.loop-k.doubled c.args.doubled.now c.args.words.now c.loop-k.k c.loop-k.invariant
    (none c.loop-k.k (omega arith))
    (moved_all c.args.size g.row.W c.loop-m.doubled c.loop-k.doubled c.args.words.now (none g.row.W (omega arith)) _
    c.loop-m.invariant
    (omega (arith, c.requires.whole))) in
    record {
      joined = gains_doubled c.args.size _ c.args.doubled.now c.args.words.now c.requires.clear is;
      doubled_clear = gained_clear c.args.size _ c.args.doubled.now c.args.words.now c.requires.clear is c.requires.doubled_clear;
    }
