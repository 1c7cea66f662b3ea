use Rattle.nr_interleave.proofs.{Common.take, Common.drop, Common.refl, Common.below_from_Fits, ExchangedOctetFacts.octets-bit}
use Rattle.std.proofs.{Common.w64, lemmas.Simd.chunk-fits}
use Rattle.nr_interleave.proofs.octets.octets_of.Goals as goal

pub returns : goal.returns
returns c =
    let words = c.args.words.now in
    λ p j in_octets in_octet.
    octets-bit words (take 4 words) (take 4 (drop 4 words)) p j
    (below_from_Fits w64 (take 4 words) (chunk-fits w64 0 4 words c.type_inv.words))
    (below_from_Fits w64 (take 4 (drop 4 words)) (chunk-fits w64 4 4 words c.type_inv.words)) refl refl in_octets in_octet
