use Rattle.nr_lifting.proofs.Names.{ap, bit-place, length-unpacked, ◌==◌, ◌∙◌}
use Rattle.nr_lifting.proofs.lanes.lane.Lane.clipped.Goals as goal

pub returns-clause-bits : goal.returns-clause-bits
returns-clause-bits g c = λ t below.
    bit-place g.row.Z c.clip.new.words t c.clip.ensures.clear ∙ ap (λ n. n == 1) (c.clip.ensures.within t below)

pub returns-clause-long : goal.returns-clause-long
returns-clause-long g c = length-unpacked g.row.Z c.clip.new.words
