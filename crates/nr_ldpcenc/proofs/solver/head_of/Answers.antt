use Rattle.nr_ldpcenc.proofs.{Common.arith, Common.place-zeros, Common.cols_most, CodewordFacts.columns-are}
use Rattle.nr_ldpcenc.proofs.solver.head_of.Goals as goal

pub add_row-requires : goal.add_row-requires
add_row-requires g c = search (
  arith,
  rw (← c.info_cols-first.ensures) at c.requires.twice,
  columns-are c.args.plan.now.graph,
  cols_most c.args.plan.now.graph,
)

pub returns-clause-head : goal.returns-clause-head
returns-clause-head g c = λ t lt.
    rw (c.set_in.ensures.value, c.info_cols-first.ensures, c.row_entries.ensures.entries, place-zeros g.row.W t)
    at (c.add_row.ensures t lt)
