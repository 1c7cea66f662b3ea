use Rattle.nr_shifttable.proofs.Common.{nat_tests, ◌≡◌, ◌==◌, ◌&&◌, false, length, sym, arith}
use Rattle.nr_shifttable.proofs.ParityFaultFacts.{judged-table}
use Rattle.nr_shifttable.proofs.table.Table.of_sorted.Goals as goal

pub invariant_of-result : goal.invariant_of-result
invariant_of-result c =
    let some : ((length c.args.one == 0) && (length c.args.two == 0)) ≡ false = grind (arith, nat_tests) in
    judged-table c.args.one c.args.two c.requires.ones c.requires.twos c.in_ok-judge.ensures.order c.in_ok-judge-2.ensures.order
    some (sym c.in_ok-judge.ensures.value) (sym c.in_ok-judge-2.ensures.value)

pub returns-clause-table : goal.returns-clause-table
returns-clause-table c = invariant_of-result c
