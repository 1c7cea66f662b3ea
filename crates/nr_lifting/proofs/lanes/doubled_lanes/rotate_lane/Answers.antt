use Rattle.nr_lifting.proofs.{Names.arith, Names.refl, Names.◌+◌, Names.◌∙◌, DoubledLaneFacts.zero_doubled}
use Rattle.nr_lifting.proofs.{DoubledJoinFacts.zeros_gain, RotationFacts.doubled-gains}
use Rattle.nr_lifting.proofs.DoubledWordFacts.{first_clear, one_clear, one_rotated}
use Rattle.nr_lifting.proofs.lanes.doubled_lanes.rotate_lane.Goals as goal

-- one word
pub turned_word-requires-clause-clear : goal.turned_word-requires-clause-clear
turned_word-requires-clause-clear g c = first_clear c.args.size c.args.words.now c.requires.clear (omega arith)

pub returns-then-this-eq1-clause-rotated : goal.returns-then-this-eq1-clause-rotated
returns-then-this-eq1-clause-rotated g c =
    one_rotated c.args.size c.args.p g.row.W c.turned_word.result _ c.args.words.now c.args.mask.now
    (omega arith) c.requires.few c.requires.mask refl c.requires.rotation c.turned_word.ensures

pub returns-then-this-eq1-clause-clear : goal.returns-then-this-eq1-clause-clear
returns-then-this-eq1-clause-clear g c =
    one_clear c.args.size c.args.p g.row.W c.turned_word.result _ c.args.words.now c.args.mask.now
    (omega arith) c.requires.few c.requires.mask refl

-- several words, which make a doubled lane
pub lane_of-requires : goal.lane_of-requires
lane_of-requires g c =
    let is = doubled-gains c.args.size c.union_doubled.new.doubled _ c.args.words.now
    (zero_doubled c.args.size g.row.D) c.union_doubled.ensures.joined in
    (omega arith, (omega arith, (c.requires.twice, (c.requires.few, (c.requires.rotation, (is, c.requires.mask))))))

pub returns-clause-rotated : goal.returns-clause-rotated
returns-clause-rotated g c = λ t below.
    c.lane_of.ensures.rotated t below
    ∙ zeros_gain c.args.size g.row.D (t + c.args.p) c.union_doubled.new.doubled c.args.words.now c.union_doubled.ensures.joined
    (omega (arith, below))
