use Rattle.nr_bitvec.proofs.{Common.arith, Common.bit_at_above, BitFacts.low_bits-low, BitFacts.low_bits-high}
use Rattle.nr_bitvec.proofs.words.low_bits.Goals as goal

pub returns-then-count-lt64-clause-low : goal.returns-then-count-lt64-clause-low
returns-then-count-lt64-clause-low c = λ j below. low_bits-low c.args.word c.args.count j c.if-count-lt64.true below

pub returns-then-count-lt64-clause-high : goal.returns-then-count-lt64-clause-high
returns-then-count-lt64-clause-high c = λ j above. low_bits-high c.args.word c.args.count j c.if-count-lt64.true above

-- the word has no bit from 64 on
pub returns-else-count-lt64-clause-high : goal.returns-else-count-lt64-clause-high
returns-else-count-lt64-clause-high c = λ j above. bit_at_above c.args.word 64 j c.ranges.word.fits (omega (arith, above))
