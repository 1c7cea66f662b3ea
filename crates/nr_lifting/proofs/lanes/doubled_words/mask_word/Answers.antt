use Rattle.nr_lifting.proofs.Names.{arith, bit_at_above, ◌-◌, ◌^◌, ◌∙◌, bit_at_ones}
use Rattle.nr_lifting.proofs.lanes.doubled_words.mask_word.Goals as goal

pub returns-then-i-whole-clause-low : goal.returns-then-i-whole-clause-low
returns-then-i-whole-clause-low c = λ j short below. bit_at_ones 64 j short

pub returns-then-i-whole-clause-high : goal.returns-then-i-whole-clause-high
returns-then-i-whole-clause-high c = λ j past. bit_at_above (2 ^ 64 - 1) 64 j (omega arith) (omega (arith, past))

pub returns-then-i-whole-2-clause-low : goal.returns-then-i-whole-2-clause-low
returns-then-i-whole-2-clause-low c = λ j short below. c.low_bits.ensures.low j (omega (arith, below)) ∙ bit_at_ones 64 j short
