use Rattle.nr_files.proofs.DigitLaneFacts.{values}
use Rattle.nr_files.proofs.blocks.sixteen_values.Goals as goal

pub returns : goal.returns
returns c = values 16 c.args.characters c.fits-characters.0 c.requires
