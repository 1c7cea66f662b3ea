use Rattle.nr_files.proofs.Common.{◌++◌, length-append, arith}
use Rattle.nr_files.proofs.DigitLaneFacts.{digits-joined, even-digits, octets, odd-digits}
use Rattle.nr_files.proofs.blocks.sixteen_octets.Goals as goal

pub sixteen_values-high-requires : goal.sixteen_values-high-requires
sixteen_values-high-requires c =
    even-digits (c.args.first ++ c.args.second)
    (omega (arith, length-append c.args.first c.args.second, c.fits-first.0, c.fits-second.0))
    (digits-joined c.args.first c.args.second c.requires.first c.requires.second)

pub sixteen_values-low-requires : goal.sixteen_values-low-requires
sixteen_values-low-requires c =
    odd-digits (c.args.first ++ c.args.second)
    (omega (arith, length-append c.args.first c.args.second, c.fits-first.0, c.fits-second.0))
    (digits-joined c.args.first c.args.second c.requires.first c.requires.second)

pub returns : goal.returns
returns c =
    octets (c.args.first ++ c.args.second) c.sixteen_values-high.result c.sixteen_values-low.result
    (omega (arith, length-append c.args.first c.args.second, c.fits-first.0, c.fits-second.0))
    (digits-joined c.args.first c.args.second c.requires.first c.requires.second) c.sixteen_values-high.ensures
    c.sixteen_values-low.ensures
