-- Each turn reads one digit after at most nine.
use Rattle.nr_streams.proofs.{Common.arith, FieldFacts.Digit, FieldFacts.one-digit}
use Rattle.nr_streams.proofs.fields.value_of.Goals as goal

pub overflow_mul-value : goal.overflow_mul-value
overflow_mul-value c =
    let digit : Digit c.args.digits.now c.loop-digit.digit-index c.loop-digit.value =
    one-digit c.args.digits.now c.loop-digit.digit-index c.loop-digit.value c.requires.digits c.requires.few
    (omega arith) c.loop-digit.invariant in
    omega arith

pub overflow_add-value : goal.overflow_add-value
overflow_add-value c = grind (arith, one-digit)

pub loop-digit-preserved : goal.loop-digit-preserved
loop-digit-preserved c = grind (arith, one-digit)
