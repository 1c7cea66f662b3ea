use Rattle.nr_shifttable.proofs.Common.{sym, subst, All, IsInRange, One, Two}
use Rattle.nr_shifttable.proofs.EntryOrderFacts.{table-range}
use Rattle.nr_shifttable.proofs.table.Table.from_items.Goals as goal

pub of_sorted-requires-clause-ones : goal.of_sorted-requires-clause-ones
of_sorted-requires-clause-ones c =
    subst (All (IsInRange One)) (sym c.in_ok-one.ensures) (table-range One c.args.items.now c.requires.in_range)

pub of_sorted-requires-clause-twos : goal.of_sorted-requires-clause-twos
of_sorted-requires-clause-twos c =
    subst (All (IsInRange Two)) (sym c.in_ok-two.ensures) (table-range Two c.args.items.now c.requires.in_range)
