use Rattle.nr_lifting.proofs.Names.{ap, arith, bit_at, bit_or, get_or, length, length-set, place, place_of, refl, set, sym, ◌*◌}
use Rattle.nr_lifting.proofs.Names.{◌+◌, ◌-◌, ◌∙◌, ◌≡◌}
use Rattle.nr_lifting.proofs.PutWordFacts.{put_more, up_by, window_read}
use Rattle.nr_lifting.proofs.TwoCopyFacts.{IsPutTwice, doubled, others}
use Rattle.nr_lifting.proofs.lanes.doubled_words.put_twice.Goals as goal

-- the next word of the first copy
pub loop-k-preserved : goal.loop-k-preserved
loop-k-preserved g c =
    put_more c.args.at c.loop-k.k _ _ _ _ _ c.loop-k.invariant (omega (arith, c.loop-k.invariant.long)) refl
    (λ j short. ap (λ n. bit_at n j) c.word_or_zero.ensures.value
    ∙ sym (place_of c.args.lane.now (64 * c.loop-k.k + j) c.loop-k.k j refl short))

-- the next word of the second copy
pub loop-i-preserved : goal.loop-i-preserved
loop-i-preserved g c =
    let long : length c.loop-i.words ≡ length c.args.words.now =
    c.loop-i.auto.words ∙ length-set c.loop-k.words (c.args.at + g.row.W - 1) _ ∙ c.loop-k.auto.words in
    put_more (c.args.at + g.row.W) c.loop-i.i _ _ _ _ _ c.loop-i.invariant (omega (arith, long)) refl
    (λ j short.
    let moved : 64 * c.loop-i.i + (64 * g.row.W - g.row.Z) + j ≡ 64 * c.loop-i.i + j + (64 * g.row.W - g.row.Z) = omega arith in
    window_read c.args.lane.now c.loop-i.i (64 * g.row.W - g.row.Z) _ _ j c.word_or_zero-low.ensures.value
    c.word_or_zero-in-loop-i.ensures.value c.word_or_zero-low.ensures.fits (omega arith) short
    ∙ ap (place c.args.lane.now) moved)

-- One loop puts the first copy, the other all from word W on, and the second copy's first bits fill the word before.
pub returns : goal.returns
returns g c =
    let all : c.loop-k.k ≡ g.row.W = omega arith in
    let every : c.loop-i.i ≡ g.row.W = omega arith in
    let is : IsPutTwice g.row.Z g.row.W c.args.at c.args.lane.now c.args.words.now c.loop-k.words _ c.loop-i.words = record {
      above = c.requires.above;
      below = c.requires.below;
      some = c.requires.some;
      clear = c.requires.clear;
      inside = c.requires.inside;
      first = rw all at c.loop-k.invariant;
      joint = ap (λ n. set c.loop-k.words (c.args.at + g.row.W - 1) (bit_or (get_or c.loop-k.words (c.args.at + g.row.W - 1) 0)
          (up_by n (64 * g.row.W - g.row.Z)))) c.word_or_zero-2.ensures.value;
      second = rw every at c.loop-i.invariant;
    } in
    record { doubled = doubled is; others = others is }
