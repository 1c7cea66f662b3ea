use Rattle.nr_streams.proofs.{Common.refl, Common.arith, Common.records_left, RecordFacts.records-few, RecordFacts.strip-length}
use Rattle.nr_streams.proofs.records.Records.new.Goals as goal

pub returns-clause-records : goal.returns-clause-records
unfolding records_left
returns-clause-records c = rw (c.from_reader-reader.ensures.state, c.from_reader-reader.ensures.source) refl

pub returns-clause-few : goal.returns-clause-few
returns-clause-few c = grind (arith, records-few, strip-length)
