use Rattle.nr_ldpcenc.proofs.Common.{◌*◌, sym, ◌∙◌, arith, bit, info_cols_of, col_bit, lifting_of, AgreeBelow}
use Rattle.nr_ldpcenc.proofs.{EntrySumFacts.core_heads, RowSumFacts.head-moves}
use Rattle.nr_ldpcenc.proofs.solver.solve_core.Goals as goal

pub solve_first-requires : goal.solve_first-requires
solve_first-requires g c =
    let plan = c.args.plan.now in
    let sum = core_heads (lifting_of c.args.table.now plan g.row.Z) (col_bit g.row.Z c.args.cols.now)
    c.head_of-zero.result c.head_of-one.result c.head_of-two.result c.head_of-three.result _ _
    c.add_lane-3.new.sum
    c.head_of-zero.ensures.head c.head_of-one.ensures.head c.head_of-two.ensures.head c.head_of-three.ensures.head
    c.add_lane.ensures.bits c.add_lane-2.ensures.bits c.add_lane-3.ensures.bits in
    search (arith, sum)

pub solve_next-requires : goal.solve_next-requires
solve_next-requires g c =
    let plan = c.args.plan.now in
    let z = g.row.Z in
    let same : AgreeBelow (info_cols_of plan.graph * z) (col_bit z c.args.cols.now) (bit c.solve_first.new.bits.items) =
    λ p lt. sym (c.requires.columns.same p lt) ∙ c.solve_first.ensures.same_below p lt in
    let l = lifting_of c.args.table.now plan z in
    let head = head-moves l _ _ 0 c.head_of-zero.result c.requires.some same c.head_of-zero.ensures.head in
    search (arith, head)

pub solve_next-requires-2 : goal.solve_next-requires-2
solve_next-requires-2 g c =
    let plan = c.args.plan.now in
    let z = g.row.Z in
    let same : AgreeBelow (info_cols_of plan.graph * z) (col_bit z c.args.cols.now) (bit c.solve_next.new.bits.items) =
    λ p lt. sym (c.requires.columns.same p lt) ∙ c.solve_first.ensures.same_below p lt
    ∙ c.solve_next.ensures.same_below p lt in
    let l = lifting_of c.args.table.now plan z in
    let head = head-moves l _ _ 1 c.head_of-one.result c.requires.some same c.head_of-one.ensures.head in
    search (arith, head)

pub solve_next-requires-3 : goal.solve_next-requires-3
solve_next-requires-3 g c =
    let plan = c.args.plan.now in
    let z = g.row.Z in
    let same : AgreeBelow (info_cols_of plan.graph * z) (col_bit z c.args.cols.now) (bit c.solve_next-2.new.bits.items) =
    λ p lt. sym (c.requires.columns.same p lt) ∙ c.solve_first.ensures.same_below p lt ∙ c.solve_next.ensures.same_below p lt
    ∙ c.solve_next-2.ensures.same_below p lt in
    let l = lifting_of c.args.table.now plan z in
    let head = head-moves l _ _ 3 c.head_of-three.result c.requires.some same c.head_of-three.ensures.head in
    search (arith, head)

pub returns-clause-same_below : goal.returns-clause-same_below
returns-clause-same_below g c = λ p lt.
    c.solve_first.ensures.same_below p lt ∙ c.solve_next.ensures.same_below p lt ∙ c.solve_next-2.ensures.same_below p lt
    ∙ c.solve_next-3.ensures.same_below p lt
