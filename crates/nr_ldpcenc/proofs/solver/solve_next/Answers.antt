use Rattle.nr_ldpcenc.proofs.Common.{◌≡◌, ℕ, ◌+◌, ◌*◌, ◌≤◌, Bool, ap, ◌∙◌, arith, mul-le-mul_right, bit}
use Rattle.nr_ldpcenc.proofs.Common.{info_cols_of, cols_of, cols_most, col_bit, lifting_of, row_ending}
use Rattle.nr_ldpcenc.proofs.{CodewordFacts.columns-are, CodewordFacts.core_few, CodewordFacts.rows_four, PutColumnFacts.next_put}
use Rattle.nr_ldpcenc.proofs.{CoreRowFacts.row_ending-low, CoreRowFacts.row_ending-high, RowSumFacts.rest_after-head}
use Rattle.nr_ldpcenc.proofs.solver.solve_next.Goals.{then-i-lt3, else-i-lt3}
use Rattle.nr_ldpcenc.proofs.solver.solve_next.Goals as goal

-- The word has a place for the column, since each graph has at least four parity columns.
pub put_block-requires : goal.put_block-requires
put_block-requires g c =
    let graph = c.args.plan.now.graph in
    let up : (c.info_cols-first.result + c.args.i + 1) * g.row.Z ≤ cols_of graph * g.row.Z =
    mul-le-mul_right g.row.Z (omega (arith, c.info_cols-first.ensures, columns-are graph, rows_four graph)) in
    search (
      arith,
      up,
      rw (← c.info_cols-first.ensures) at c.requires.columns,
      columns-are graph,
      cols_most graph,
      core_few graph,
      rows_four graph,
    )

-- All else in the row is known by now: what it has before the first parity column is `head`, and `add_rest` adds the rest. The
-- column is their sum, so that the row sums to zero.
pub returns-clause-solved : goal.returns-clause-solved
returns-clause-solved g c =
    let plan = c.args.plan.now in
    let i = c.args.i in
    let z = g.row.Z in
    let l = lifting_of c.args.table.now plan z in
    let n : ℕ = info_cols_of plan.graph in
    let w : ℕ → Bool = bit c.args.bits.now.items in
    let its_row : c.if-i-lt3.row ≡ row_ending i = elim c.if-i-lt3.branch [
      | then-i-lt3 b ↦ b.row-is ∙ row_ending-low i b.if-i-lt3.true
      | else-i-lt3 b ↦ b.row-is ∙ row_ending-high i b.if-i-lt3.false
    ] in
    next_put l c.requires.some w (bit c.put_block.new.bits.items) (bit c.clipped-block.result)
    ((c.info_cols-first.result + i) * z)
    i (ap (λ q. (q + i) * z) c.info_cols-first.ensures) c.requires.after c.requires.solved c.put_block.ensures.before
    c.put_block.ensures.block
    (λ t lt. c.clipped-block.ensures.bits t lt
    ∙ rest_after-head l w (col_bit z c.args.cols.now) (n + i) (row_ending i) t _ _ c.requires.some
    (omega arith) c.requires.columns.same (c.requires.head t lt)
    (rw (c.set_in-set.ensures.value, c.info_cols-first.ensures, c.row_entries.ensures.entries, its_row)
    at (c.add_rest.ensures t lt)))
