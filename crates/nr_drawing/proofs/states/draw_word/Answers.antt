use Rattle.nr_drawing.proofs.Common.{arith, nat_tests}
use Rattle.nr_drawing.proofs.states.draw_word.Goals as goal

pub returns-clause-drawn : goal.returns-clause-drawn
returns-clause-drawn c = λ j short. grind (arith, nat_tests, c.packed.ensures j, c.draw_marks-marks.ensures.drawn j short)

pub returns-clause-counted : goal.returns-clause-counted
returns-clause-counted c = λ j short.
    grind (arith, nat_tests, c.packed.ensures j, c.draw_marks-marks.ensures.drawn j short, c.count_marks.ensures j short)
