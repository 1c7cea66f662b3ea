use Rattle.nr_shifttable.proofs.Common.{◌<◌, map, sym, subst, ◌∙◌, arith, All, IsInRange, Ascending, One, Two, item_kept}
use Rattle.nr_shifttable.proofs.KeptItemFacts.{kept-range, kept-short, said-ascend, ones-ascend, twos-ascend, parted-table}
use Rattle.nr_shifttable.proofs.table.Table.of_ascending.Goals as goal

pub of_ascending-requires-clause-ascending : goal.of_ascending-requires-clause-ascending
of_ascending-requires-clause-ascending c = subst (Ascending 0) (sym c.ones_in-ones.ensures.ones)
    (ones-ascend 0 0 (map item_kept c.args.entries.now) (said-ascend 1 0 c.args.entries.now c.requires.ascending) (omega arith))

pub of_ascending-requires-clause-few : goal.of_ascending-requires-clause-few
of_ascending-requires-clause-few c = subst (All (λ e. e.row < 46)) (sym c.ones_in-ones.ensures.ones)
    (kept-short One c.args.entries.now c.requires.in_range)

pub of_ascending-requires-2-clause-ascending : goal.of_ascending-requires-2-clause-ascending
of_ascending-requires-2-clause-ascending c = subst (Ascending 0) (sym c.ones_in-ones.ensures.twos)
    (twos-ascend 0 0 (map item_kept c.args.entries.now) (said-ascend 1 0 c.args.entries.now c.requires.ascending) (omega arith))

pub of_ascending-requires-2-clause-few : goal.of_ascending-requires-2-clause-few
of_ascending-requires-2-clause-few c = subst (All (λ e. e.row < 46)) (sym c.ones_in-ones.ensures.twos)
    (kept-short Two c.args.entries.now c.requires.in_range)

pub of_sorted-requires-clause-ones : goal.of_sorted-requires-clause-ones
of_sorted-requires-clause-ones c = subst (All (IsInRange One)) (sym (c.in_ok-one.ensures ∙ c.ones_in-ones.ensures.ones))
    (kept-range One c.args.entries.now c.requires.in_range)

pub of_sorted-requires-clause-twos : goal.of_sorted-requires-clause-twos
of_sorted-requires-clause-twos c = subst (All (IsInRange Two)) (sym (c.in_ok-two.ensures ∙ c.ones_in-ones.ensures.twos))
    (kept-range Two c.args.entries.now c.requires.in_range)

pub returns-clause-said : goal.returns-clause-said
returns-clause-said c = grind (arith, parted-table, said-ascend)
