use Rattle.nr_calls.proofs.Common.{◌≢◌, ◌+◌, ◌*◌, ◌<◌, ◌∙◌, ℕ, arith, below_more, get_or-set_other}
use Rattle.nr_calls.proofs.Common.{get_or-set_same, length}
use Rattle.std.proofs.Math.Nat.{mul-lt-mul_of_pos_right}
use Rattle.nr_calls.proofs.placing.write_run.Goals as goal

-- one more number is written, at an entry of its own
pub loop-j-preserved : goal.loop-j-preserved
loop-j-preserved c =
    let n = c.loop-j.j in
    let step = c.args.step in
    let at : ℕ = c.args.from + n * step in
    let inside : at < length c.loop-j.out = omega (arith, c.requires.inside n c.loop-j-test.true, c.loop-j.auto.out) in
    record {
      within = below_more _ _
          (λ i lt.
          let low = mul-lt-mul_of_pos_right lt c.requires.some in
          let other : c.args.from + i * step ≢ at = omega (arith, low) in
          get_or-set_other c.loop-j.out at (c.args.from + i * step) (c.args.first + n) 0 other ∙ c.loop-j.invariant.within i lt)
          (get_or-set_same c.loop-j.out at (c.args.first + n) 0 inside);
      others = λ m apart.
          get_or-set_other c.loop-j.out at m (c.args.first + n) 0 (apart n (omega arith))
          ∙ c.loop-j.invariant.others m (λ i lt. apart i (omega (arith, lt)));
    }
