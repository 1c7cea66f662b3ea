use Rattle.nr_ldpcenc.proofs.Common.{◌+◌, ◌*◌, ◌≤◌, refl, sym, ap, ◌∙◌, arith, mul-le-mul_right, bit, cols_of}
use Rattle.nr_ldpcenc.proofs.{Common.cols_most, Common.col_bit, Common.core_rotation, Common.lifting_of, PutColumnFacts.first_put}
use Rattle.nr_ldpcenc.proofs.CodewordFacts.{columns-are, core_few, rows_four}
use Rattle.nr_ldpcenc.proofs.SolvedColumnFacts.{core_sums-agree}
use Rattle.nr_ldpcenc.proofs.solver.solve_first.Goals as goal

-- The word has a place for the column, since each graph has at least four parity columns.
pub put_block-requires : goal.put_block-requires
put_block-requires g c =
    let graph = c.args.plan.now.graph in
    let up : (c.info_cols.result + 1) * g.row.Z ≤ cols_of graph * g.row.Z =
    mul-le-mul_right g.row.Z (omega (arith, c.info_cols.ensures, columns-are graph, rows_four graph)) in
    search (
      arith,
      up,
      rw (← c.info_cols.ensures) at c.requires.columns,
      columns-are graph,
      cols_most graph,
      core_few graph,
      rows_four graph,
    )

-- The core rows sum to this column rotated, and turning that back gives the column itself.
pub returns-clause-solved : goal.returns-clause-solved
unfolding core_rotation
returns-clause-solved g c =
    let plan = c.args.plan.now in
    let z = g.row.Z in
    let l = lifting_of c.args.table.now plan z in
    let old = bit c.args.bits.now.items in
    let cols = col_bit z c.args.cols.now in
    first_put l c.requires.some
    old (bit c.put_block.new.bits.items) (bit c.clipped-sum.result) (c.info_cols.result * z)
    c.from-rotation.result _ (ap (λ q. q * z) c.info_cols.ensures) (c.from-rotation.ensures ∙ c.rotation_of.ensures) refl
    c.put_block.ensures.before
    (λ u lt. c.put_block.ensures.block u lt ∙ c.rotated-block.ensures.bits u lt)
    (λ t lt. c.clipped-sum.ensures.bits t lt ∙ c.requires.sum t lt
    ∙ sym (core_sums-agree l old cols t c.requires.some c.requires.columns.same))
