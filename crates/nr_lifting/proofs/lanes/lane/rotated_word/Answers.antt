use Rattle.nr_lifting.proofs.Names.{ap, arith, bit_at, bit_at_or, place, ◌*◌, ◌+◌, ◌∙◌, ◌≡◌}
use Rattle.nr_lifting.proofs.RotationFacts.{rotated}
use Rattle.nr_lifting.proofs.lanes.lane.rotated_word.Goals as goal

-- the low bits are those of the two words' union
pub returns-clause-rotated : goal.returns-clause-rotated
returns-clause-rotated c = λ j short below.
    let straight : bit_at c.window-straight.result j ≡ place c.args.words.now (64 * c.args.i + j + c.args.p) =
    c.window-straight.ensures j short ∙ ap (place c.args.words.now) (omega arith) in
    c.low_bits.ensures.low j (omega (arith, below))
    ∙ bit_at_or c.window-straight.result c.wrapped_word.result j
    ∙ rotated c.args.words.now c.args.size (64 * c.args.i + j) c.args.p _ _ below c.requires.rotation c.requires.clear straight
    (c.wrapped_word.ensures.low j) (c.wrapped_word.ensures.high j short)

pub returns-clause-clear : goal.returns-clause-clear
returns-clause-clear c = λ j past. c.low_bits.ensures.high j (omega (arith, past))
