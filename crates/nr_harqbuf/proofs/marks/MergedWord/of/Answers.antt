use Rattle.nr_harqbuf.proofs.Common.{bit_and, bit_xor, and_lt, xor_lt, eqb-true, eq-eqb}
use Rattle.nr_harqbuf.proofs.MarkWordFacts.{agrees-zero, first-word, news-word, zero-agrees}
use Rattle.nr_harqbuf.proofs.marks.MergedWord.of.Goals as goal

pub returns-clause-first : goal.returns-clause-first
returns-clause-first c = λ j lt. first-word c.args.heard c.args.value c.args.now c.args.bits j c.ranges.heard.fits lt

pub returns-clause-news : goal.returns-clause-news
returns-clause-news c = λ j lt. news-word c.args.heard c.args.now j c.ranges.heard.fits lt

-- The number that is tested has a one for each position that is received again with the other bit, and no other ones.
pub returns-clause-agreed : goal.returns-clause-agreed
returns-clause-agreed c =
    let fits = and_lt 64 (bit_and c.args.now c.args.heard) (bit_xor c.args.value c.args.bits)
    (and_lt 64 c.args.now c.args.heard c.ranges.now.fits c.ranges.heard.fits)
    (xor_lt 64 c.args.value c.args.bits c.ranges.value.fits c.ranges.bits.fits) in (
      λ clean. zero-agrees c.args.heard c.args.value c.args.now c.args.bits (eqb-true _ 0 clean),
      λ same. eq-eqb _ 0 (agrees-zero c.args.heard c.args.value c.args.now c.args.bits fits same),
    )
