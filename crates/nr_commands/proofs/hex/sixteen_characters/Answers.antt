use Rattle.nr_commands.proofs.{Common.arith, Common.w8, HexFacts.characters}
use Rattle.std.proofs.lemmas.Simd.{SwzOk-from_below}
use Rattle.nr_commands.proofs.hex.sixteen_characters.Goals as goal

pub swizzle : goal.swizzle
swizzle c = SwzOk-from_below w8 16 1 16 0 c.args.values (omega arith) (omega (arith, c.fits-values.0)) c.requires

pub returns : goal.returns
returns c = characters c.args.values c.fits-values.0 c.requires
