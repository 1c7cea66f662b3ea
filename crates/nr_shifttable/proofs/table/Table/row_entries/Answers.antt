use Rattle.nr_shifttable.proofs.{Common.arith, Common.entries_in, RowOrderFacts.row-ascends, RowOrderFacts.row-range}
use Rattle.nr_shifttable.proofs.table.Table.row_entries.Goals as goal

pub returns-clause-order : goal.returns-clause-order
returns-clause-order c = rw (c.row.ensures.value, c.sorted.ensures.value)
    (row-ascends (entries_in c.args.graph c.args.self.now) c.args.row (c.sorted.ensures.table.entries.order c.args.graph))

pub returns-clause-in_range : goal.returns-clause-in_range
returns-clause-in_range c = grind (arith, row-range)
