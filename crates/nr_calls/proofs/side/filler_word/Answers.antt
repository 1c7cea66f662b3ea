use Rattle.nr_calls.proofs.Common.{◌∙◌, ◌==◌, ap, arith, nat_tests, bit_at_ones}
use Rattle.nr_calls.proofs.side.filler_word.Goals as goal

pub returns-then-p-plan : goal.returns-then-p-plan
returns-then-p-plan c = λ j short.
    ap (λ n. n == 1) (bit_at_ones 64 j short) ∙ grind (arith, nat_tests, c.if-plan-p.true, c.if-p-plan.true)
