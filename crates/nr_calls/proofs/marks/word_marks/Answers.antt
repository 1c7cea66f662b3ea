use Rattle.nr_calls.proofs.Common.{◌==◌, nat_le, map, ap, ◌∙◌, arith, length-map, low_first, is_digit, is_one}
use Rattle.nr_calls.proofs.MarkFacts.{first-mask}
use Rattle.std.proofs.{Common.w8, lemmas.Simd.bitmask_splat}
use Rattle.nr_calls.proofs.marks.word_marks.Goals as goal

pub returns-clause-marks : goal.returns-clause-marks
returns-clause-marks c =
    ap (low_first 64) (bitmask_splat w8 nat_le c.args.octets 64 1 c.fits-octets.0 (omega arith))
    ∙ first-mask (map is_digit c.args.octets) 64 (length-map c.args.octets is_digit ∙ c.fits-octets.0)

pub returns-clause-bits : goal.returns-clause-bits
returns-clause-bits c =
    ap (low_first 64) (bitmask_splat w8 (λ a b. a == b) c.args.octets 64 1 c.fits-octets.0 (omega arith))
    ∙ first-mask (map is_one c.args.octets) 64 (length-map c.args.octets is_one ∙ c.fits-octets.0)
