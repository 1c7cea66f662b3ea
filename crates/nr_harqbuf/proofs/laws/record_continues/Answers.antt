use Rattle.nr_harqbuf.proofs.RecordLaws.{record-continues}
use Rattle.nr_harqbuf.proofs.laws.record_continues.Goals as goal

pub returns : goal.returns
returns c = record-continues
