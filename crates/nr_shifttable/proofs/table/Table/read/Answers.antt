use Rattle.nr_shifttable.proofs.{Common.Err, Common.Entries, JudgedFaultFacts.too_long-said}
use Rattle.nr_shifttable.proofs.table.Table.read.Goals as goal

pub returns-in-Err-TooLong-clause-said : goal.returns-in-Err-TooLong-clause-said
returns-in-Err-TooLong-clause-said g c =
    too_long-said (g.S.Source.remaining c.args.source.now) (λ (t : Entries). t)
    (c.in-Err-TooLong.ensures.too_long (λ i. Err (c.in-Err-TooLong.field-0-is i)))
