use Rattle.nr_lifting.proofs.Names.{arith, refl}
use Rattle.nr_lifting.proofs.LaneWordFacts.{written_more, written_lane, joined_low, joined_high, twice_low, twice_high}
use Rattle.nr_lifting.proofs.lanes.lane.tally_words.Goals as goal

-- the next words are ones that are kept so far
pub loop-i-preserved : goal.loop-i-preserved
loop-i-preserved c =
    let ones = c.loop-i.invariant.ones_at.kept c.loop-i.i (omega arith) in
    let more = c.loop-i.invariant.more_at.kept c.loop-i.i (omega arith) in
    let is = c.rotated_word-rotated.ensures.rotated in
    let none = c.rotated_word-rotated.ensures.clear in
    record {
      ones_at = written_more _ _ _ _ _ _ _ c.loop-i.invariant.ones_at (omega arith) refl
          (joined_low _ _ _ _ _ _ _ ones c.requires.ones.clear is none)
          (joined_high _ _ _ _ _ _ _ ones c.requires.ones.clear is none);
      more_at = written_more _ _ _ _ _ _ _ c.loop-i.invariant.more_at (omega arith) refl
          (twice_low _ _ _ _ _ _ _ ones c.requires.ones.clear is none _ _ more c.requires.more.clear)
          (twice_high _ _ _ _ _ _ _ ones c.requires.ones.clear is none _ _ more c.requires.more.clear);
    }

pub returns : goal.returns
returns c = grind (arith, written_lane)
