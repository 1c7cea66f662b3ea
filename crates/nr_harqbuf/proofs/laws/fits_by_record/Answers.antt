use Rattle.nr_harqbuf.proofs.RecordLaws.{fits-by_record}
use Rattle.nr_harqbuf.proofs.laws.fits_by_record.Goals as goal

pub returns : goal.returns
returns c = fits-by_record
