use Rattle.nr_calls.proofs.Common.{◌++◌, ◌*◌, ◌∙◌, ap, arith, is_digit, is_one}
use Rattle.nr_calls.proofs.{MarkFacts.rest-more, MarkFacts.word-more}
use Rattle.nr_calls.proofs.marks.push_marks.Goals as goal

pub loop-i-preserved : goal.loop-i-preserved
loop-i-preserved c = record {
  marks = word-more is_digit c.args.octets.now c.loop-i.heard.items _ c.loop-i.i c.loop-i.invariant.marks
      (c.push_word.ensures.items ∙ ap (λ ms. c.loop-i.heard.items ++ ms) c.word_marks-marks.ensures.marks);
  bits = word-more is_one c.args.octets.now c.loop-i.value.items _ c.loop-i.i c.loop-i.invariant.bits
      (c.push_word-in-loop-i.ensures.items ∙ ap (λ ms. c.loop-i.value.items ++ ms) c.word_marks-marks.ensures.bits);
  room = omega (arith, c.push_word.ensures.room);
  room_too = omega (arith, c.push_word-in-loop-i.ensures.room);
}

-- and the octets that are left
pub returns-clause-heard : goal.returns-clause-heard
returns-clause-heard c =
    rest-more is_digit c.args.octets.now c.filled.result c.loop-i.heard.items _ (64 * c.loop-i.i) _ _ _ _ c.loop-i.invariant.marks
    (omega arith)
    c.push_word-2.ensures.items (omega arith) c.word_marks-marks-2.ensures.marks c.filled.ensures (omega arith)

pub returns-clause-value : goal.returns-clause-value
returns-clause-value c =
    rest-more is_one c.args.octets.now c.filled.result c.loop-i.value.items _ (64 * c.loop-i.i) _ _ _ _ c.loop-i.invariant.bits
    (omega arith)
    c.push_word-3.ensures.items (omega arith) c.word_marks-marks-2.ensures.bits c.filled.ensures (omega arith)
