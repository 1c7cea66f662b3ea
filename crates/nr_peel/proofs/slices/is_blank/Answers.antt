use Rattle.nr_peel.proofs.Common.{◌==◌, ap, ◌∙◌, arith, bit_at, bit_at-zero}
use Rattle.nr_peel.proofs.slices.is_blank.Goals as goal

pub returns : goal.returns
returns c = λ yes j u lt. ap (λ w. bit_at w j == 1) (c.loop-u.invariant u (omega (arith, lt)))
    ∙ ap (λ n. n == 1) (bit_at-zero j)
