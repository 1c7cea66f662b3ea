-- The laws of the items that the records give.
use Rattle.nr_shifttable.proofs.Common.{All, Apart, IsInside, records_of}
use Rattle.nr_shifttable.proofs.ItemLaws.{gives-law, items-apart, items-inside}
use Rattle.nr_shifttable.proofs.items.read_items.Goals as goal

pub returns-clause-apart : goal.returns-clause-apart
returns-clause-apart c = gives-law Apart c.read_records.result _ c.read_records.ensures (items-apart 1 (records_of c.args.text.now))

pub returns-clause-inside : goal.returns-clause-inside
returns-clause-inside c =
    gives-law (All IsInside) c.read_records.result _ c.read_records.ensures (items-inside 1 (records_of c.args.text.now))
