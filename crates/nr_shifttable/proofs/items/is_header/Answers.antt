-- The first field is the word `graph`, or there is none.
use Rattle.nr_shifttable.proofs.{Common.arith, Common.fields_of, ItemFacts.header-some, ItemFacts.header-none}
use Rattle.nr_shifttable.proofs.items.is_header.Goals as goal

pub returns-in-Some : goal.returns-in-Some
returns-in-Some c = grind (arith, header-some)

pub returns-in-None : goal.returns-in-None
returns-in-None c = header-none (fields_of c.args.row.now) c.in-None.ensures.value
