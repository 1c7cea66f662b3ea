use Rattle.nr_files.proofs.Common.{◌+◌, ◌*◌, arith, take_all}
use Rattle.nr_files.proofs.DigitLaneFacts.{IsDigit, all-digits, sixteen_more, length-octets_of_digits, octets_more}
use Rattle.std.proofs.lemmas.Simd.{Each1-chunk}
use Rattle.nr_files.proofs.blocks.read_digits.Goals as goal

pub sixteen_octets-requires-clause-first : goal.sixteen_octets-requires-clause-first
sixteen_octets-requires-clause-first c =
    Each1-chunk IsDigit (32 * c.loop-i.i) 16 c.args.line.now (all-digits c.args.line.now c.requires.digits)

pub sixteen_octets-requires-clause-second : goal.sixteen_octets-requires-clause-second
sixteen_octets-requires-clause-second c =
    Each1-chunk IsDigit (32 * c.loop-i.i + 16) 16 c.args.line.now (all-digits c.args.line.now c.requires.digits)

pub loop-i-preserved : goal.loop-i-preserved
loop-i-preserved c = grind (arith, sixteen_more)

pub loop-i-2-preserved : goal.loop-i-2-preserved
loop-i-2-preserved c = grind (arith, octets_more)

pub returns : goal.returns
returns c = grind (arith, take_all, length-octets_of_digits)
