-- The octets that the check does not reach, and then those to which it is added: the tables have the checks of both.
use Rattle.nr_crcattach.proofs.OctetStepFacts.{Continues-parted, parted-lt}
use Rattle.nr_crcattach.proofs.Poly.with_word.Goals as goal

pub returns-clause-value : goal.returns-clause-value
returns-clause-value c =
    rw c.from.ensures (Continues-parted c.args.self c.octet_tables-tables.result.now c.args.remainder c.args.word
    c.octet_tables-tables.ensures c.requires c.ranges.word.fits)

pub returns-clause-fits : goal.returns-clause-fits
returns-clause-fits c =
    rw c.from.ensures (parted-lt c.args.self c.octet_tables-tables.result.now c.args.remainder c.args.word
    c.octet_tables-tables.ensures c.requires c.ranges.word.fits)
