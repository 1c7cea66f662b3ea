-- The test of the code is that of the definition: doubled, the remainder still fits its number of bits.
use Rattle.nr_crcattach.proofs.Common.{◌≡◌, ℕ, ◌*◌, ◌%◌, ◌^◌, ◌∙◌, ap, arith, one_shl, Poly, degree}
use Rattle.nr_crcattach.proofs.ResidueFacts.{times_d-low, times_d-high, times_d-lt}
use Rattle.nr_crcattach.proofs.GeneratorFacts.{degree-le, remainders-le}
use Rattle.nr_crcattach.proofs.Poly.times_d.Goals as goal

-- the code's 1 << degree
one_shl-degree : (p : Poly) (shift : ℕ) → shift ≡ degree p → 1 * 2 ^ shift % 2 ^ 32 ≡ 2 ^ degree p
one_shl-degree p shift same = ap (λ k. 1 * 2 ^ k % 2 ^ 32) same ∙ one_shl (degree p) 32 (omega (arith, degree-le p))

pub overflow_mul-doubled : goal.overflow_mul-doubled
overflow_mul-doubled c = omega (arith, remainders-le c.args.self)

pub returns-then-doubled-degree-clause-value : goal.returns-then-doubled-degree-clause-value
returns-then-doubled-degree-clause-value c = grind (arith, one_shl-degree, times_d-low)

pub returns-else-doubled-degree-clause-value : goal.returns-else-doubled-degree-clause-value
returns-else-doubled-degree-clause-value c = grind (arith, one_shl-degree, times_d-high)

pub returns-else-doubled-degree-clause-fits : goal.returns-else-doubled-degree-clause-fits
returns-else-doubled-degree-clause-fits c = grind (arith, returns-else-doubled-degree-clause-value, times_d-lt)
