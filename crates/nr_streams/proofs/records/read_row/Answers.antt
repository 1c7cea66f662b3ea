-- If a read returns, what was left is the record and what is left now, or nothing.
use Rattle.csv.specs.Records.{fields_of}
use Rattle.nr_streams.proofs.RecordFacts.{row-read}
use Rattle.nr_streams.proofs.records.read_row.Goals as goal

pub returns-clause-plain : goal.returns-clause-plain
returns-clause-plain c =
    let read = c.read_byte_record.ensures in
    (row-read _ c.args.reader.now c.read_byte_record.new.self
    (fields_of c.read_byte_record.new.row) c.read_byte_record.result c.map_err.result
    c.map_err.ensures.cases c.map_err.ensures.variant c.requires read.reads read.goes read.reads_on).0

pub returns-clause-next : goal.returns-clause-next
returns-clause-next c =
    let read = c.read_byte_record.ensures in
    (row-read _ c.args.reader.now c.read_byte_record.new.self
    (fields_of c.read_byte_record.new.row) c.read_byte_record.result c.map_err.result
    c.map_err.ensures.cases c.map_err.ensures.variant c.requires read.reads read.goes read.reads_on).1
