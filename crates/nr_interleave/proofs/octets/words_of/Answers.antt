use Rattle.nr_interleave.proofs.{Common.below_from_Fits, ExchangedOctetFacts.words-bit}
use Rattle.std.proofs.Common.{w8}
use Rattle.nr_interleave.proofs.octets.words_of.Goals as goal

pub returns : goal.returns
returns c = λ k j in_words in_word.
    words-bit c.args.low c.args.high k j (below_from_Fits w8 c.args.low c.fits-low.1)
    (below_from_Fits w8 c.args.high c.fits-high.1) c.fits-low.0 in_words in_word
