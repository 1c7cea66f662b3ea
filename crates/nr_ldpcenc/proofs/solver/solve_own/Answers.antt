use Rattle.nr_ldpcenc.proofs.Common.{◌≡◌, ℕ, ◌+◌, ◌*◌, ◌≤◌, Bool, sym, ap, ◌∙◌, arith, mul-le-mul_right}
use Rattle.nr_ldpcenc.proofs.Common.{bit, place-zeros, info_cols_of, cols_of, rows_of, cols_most, col_bit, lifting_of}
use Rattle.nr_ldpcenc.proofs.{CodewordFacts.columns-are, CodewordFacts.core_few, CoreRowFacts.heads-same, PutColumnFacts.next_put}
use Rattle.nr_ldpcenc.proofs.RowSumFacts.{heads-agree}
use Rattle.nr_ldpcenc.proofs.solver.solve_own.Goals as goal

pub add_row-requires : goal.add_row-requires
add_row-requires g c = search (
  arith,
  rw (← c.info_cols-first.ensures) at c.requires.columns,
  columns-are c.args.plan.now.graph,
  cols_most c.args.plan.now.graph,
  core_few c.args.plan.now.graph,
)

-- The word has a place for the column, since a graph has as many parity columns as rows.
pub write_block-requires : goal.write_block-requires
write_block-requires g c =
    let graph = c.args.plan.now.graph in
    let up : (c.info_cols-first.result + c.args.i + 1) * g.row.Z ≤ cols_of graph * g.row.Z =
    mul-le-mul_right g.row.Z (omega (arith, c.info_cols-first.ensures, columns-are graph)) in
    search (
      arith,
      up,
      rw (← c.info_cols-first.ensures) at c.requires.columns,
      columns-are graph,
      cols_most graph,
      core_few graph,
    )

-- Past the core a row has no column but its own, so its sum up to there is that column.
pub returns-clause-solved : goal.returns-clause-solved
returns-clause-solved g c =
    let plan = c.args.plan.now in
    let i = c.args.i in
    let z = g.row.Z in
    let l = lifting_of c.args.table.now plan z in
    let n : ℕ = info_cols_of plan.graph in
    let w : ℕ → Bool = bit c.args.bits.now.items in
    next_put l c.requires.some w (bit c.write_block.new.bits.items) (bit c.clipped-block.result)
    ((c.info_cols-first.result + i) * z)
    i (ap (λ q. (q + i) * z) c.info_cols-first.ensures)
    (omega arith) c.requires.solved c.write_block.ensures.before c.write_block.ensures.block
    (λ t lt. c.clipped-block.ensures.bits t lt
    ∙ rw (c.set_in.ensures.value, c.info_cols-first.ensures, c.row_entries.ensures.entries, place-zeros g.row.W t)
    at (c.add_row.ensures t lt)
    ∙ sym (heads-agree l w (col_bit z c.args.cols.now) (n + 4) i t c.requires.some c.requires.columns.same)
    ∙ heads-same l w (rows_of plan.graph) i t c.requires.shape c.requires.after c.requires.last)

-- The columns kept as doubled lanes end before this one, so they still agree with the word.
pub returns-clause-columns : goal.returns-clause-columns
returns-clause-columns g c =
    let z = g.row.Z in
    let n : ℕ = info_cols_of c.args.plan.now.graph in
    let i = c.args.i in
    let at : (c.info_cols-first.result + i) * z ≡ (n + i) * z = ap (λ q. (q + i) * z) c.info_cols-first.ensures in
    let low : (n + 4) * z ≤ (n + i) * z = mul-le-mul_right z (omega arith) in
    let more : (n + (i + 1)) * z ≡ (c.info_cols-first.result + i + 1) * z =
    ap (λ q. q * z) (omega (arith, c.info_cols-first.ensures)) in
    record {
      twice = c.requires.columns.twice;
      same = λ q lt. sym (c.write_block.ensures.before q (omega (arith, lt, low, at))) ∙ c.requires.columns.same q lt;
      ready = λ part q past. c.write_block.ensures.ready part q (omega (arith, past, more));
      words = c.requires.columns.words;
    }
