use Rattle.nr_peel.proofs.Common.{rows_most, ap, length-set, length, arith, get_or-set_same, get_or-set_other, ◌∙◌, ◌<◌}
use Rattle.std.proofs.Common.{below_more}
use Rattle.nr_peel.proofs.bit_parallel.sweep.degrees.Goals as goal

-- the next row has its count
pub loop-i-preserved : goal.loop-i-preserved
loop-i-preserved c =
    let xs = c.loop-i.counts in
    let i = c.loop-i.i in
    let n = length c.row.result.now in
    let within : i < length xs = omega (arith, c.loop-i.invariant.long, rows_most c.args.lifted.now.plan.graph) in
    record {
      counted =
          below_more _ _ (λ h below. get_or-set_other xs i h n 0 (λ e. omega (arith, e, below))
          ∙ c.loop-i.invariant.counted h below) (get_or-set_same xs i n 0 within ∙ ap length c.row.ensures);
      long = length-set xs i n ∙ c.loop-i.invariant.long;
    }
