use Rattle.nr_shifttable.proofs.{Common.arith, Common.entries_in, RowOrderFacts.column-ascends, RowOrderFacts.column-range}
use Rattle.nr_shifttable.proofs.table.Table.col_entries.Goals as goal

pub returns-clause-order : goal.returns-clause-order
returns-clause-order c = rw (c.column.ensures, c.sorted.ensures.value)
    (column-ascends (entries_in c.args.graph c.args.self.now) c.args.col (c.sorted.ensures.table.entries.order c.args.graph))

pub returns-clause-in_range : goal.returns-clause-in_range
returns-clause-in_range c = grind (arith, column-range)
