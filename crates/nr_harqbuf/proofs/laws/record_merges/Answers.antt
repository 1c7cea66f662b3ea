use Rattle.nr_harqbuf.proofs.MergedRecordFacts.{record-merges}
use Rattle.nr_harqbuf.proofs.laws.record_merges.Goals as goal

pub returns : goal.returns
returns c = record-merges
