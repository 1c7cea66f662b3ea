use Rattle.nr_peel.proofs.Common.{rules, ◌<◌, length, arith, refl, length-set}
use Rattle.nr_peel.proofs.SliceFacts.{settled_any, settled_later, settled_lone}
use Rattle.nr_peel.proofs.slices.visiting.settle.Goals as goal

-- one row more is settled
pub loop-t-preserved : goal.loop-t-preserved
loop-t-preserved c =
    let inv = c.loop-t.invariant in
    let inside : c.loop-t.t < length c.loop-t.some = omega (arith, c.loop-t-test.true, c.requires.some, inv.long) in
    record {
      lone = settled_lone c.loop-t.some c.args.some.now c.args.more.now c.loop-t.t _ inside refl (search rules) inv.later inv.lone;
      later = settled_later c.loop-t.some c.args.some.now c.args.more.now c.loop-t.t _ inside refl (search rules) inv.later;
      any =
          settled_any c.loop-t.some c.args.some.now c.args.more.now c.loop-t.t _ inside refl (search rules) inv.later c.loop-t.any
          inv.any;
      long = grind (arith, length-set, inv.long);
    }
