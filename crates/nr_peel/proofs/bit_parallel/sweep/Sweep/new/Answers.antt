use Rattle.nr_peel.proofs.Common.{◌∙◌, ◌<◌, ◌≤◌, ◌≡◌, ◌*◌, ℕ, sym, ap, length, get_or, take, arith}
use Rattle.nr_peel.proofs.{Common.work_of, Common.lifted_checks, Common.rows_most, RowEntryFacts.row_long, StartFacts.blank_sweep}
use Rattle.nr_peel.proofs.TableGridFacts.{rows_short}
use Rattle.nr_peel.proofs.bit_parallel.sweep.Sweep.new.Goals.{After-rows}
use Rattle.std.proofs.lemmas.List.{get_or-take, length-take}
use Rattle.nr_peel.proofs.bit_parallel.sweep.Sweep.new.Given as given
use Rattle.nr_peel.proofs.bit_parallel.sweep.Sweep.new.Goals as goal

-- there is a degree for each row block
long : (g : given.Over) (c : After-rows g) → length (take c.rows.result c.degrees-degrees.result) ≡ c.rows.result
long g c = omega (arith, length-take c.rows.result c.degrees-degrees.result, rows_most c.args.lifted.now.plan.graph, c.rows.ensures)

pub slice_bounds-degrees-end-2 : goal.slice_bounds-degrees-end-2
slice_bounds-degrees-end-2 g c = sym (long g (goal.at.slice_bounds-degrees-end-2 g c).After-rows)

-- each degree is below 32, as many as the planes can count
pub new-requires-2 : goal.new-requires-2
new-requires-2 g c =
    let rows = c.rows.result in
    let few = long g (goal.at.new-requires-2 g c).After-rows in
    let l = c.args.lifted.now in
    let xs = c.degrees-degrees.result in
    let small : (k : ℕ) → k < length (take rows xs) → get_or (take rows xs) k 0 < 32 = λ k below.
    omega (
      arith,
      get_or-take rows xs k 0 (omega (arith, below, few)),
      c.degrees-degrees.ensures k (omega (arith, below, few, c.rows.ensures)),
      rows_short l.table.now l.plan.graph k c.requires.table,
    ) in
    grind (arith, few, rows_most l.plan.graph, small)

pub new-counts-requires : goal.new-counts-requires
new-counts-requires g c =
    grind (arith, long g (goal.at.new-counts-requires g c).After-rows, rows_most c.args.lifted.now.plan.graph)

-- each count is the number of its row's positions, since the planes are made of the degrees
pub returns : goal.returns
returns g c =
    let l = c.args.lifted.now in
    let rows = c.rows.result in
    let p = c.in_ok-planes.ensures in
    let e = c.new-counts.ensures in
    let few = long g (goal.at.returns g c).After-rows in
    let worked : work_of c.new-counts.result ≤ (lifted_checks l).rows = omega (arith, e.worked, few, c.rows.ensures) in
    blank_sweep l _ c.requires.table c.in_ok-lanes.ensures c.in_ok-planes.planes (record {
      counted = λ i t row below. p.counts i t below
          ∙ get_or-take rows c.degrees-degrees.result i 0 (omega (arith, row, c.rows.ensures)) ∙ c.degrees-degrees.ensures i row
          ∙ sym (row_long l i t);
      long = p.long ∙ ap (λ n. n * l.plan.z) (few ∙ c.rows.ensures);
      lanes = p.lanes;
    }) e.items e.lanes worked
