use Rattle.nr_files.proofs.Common.{◌≡◌, ◌+◌, ◌*◌, length, min, length-append, arith, take_all, take-add}
use Rattle.nr_bitvec.proofs.PackedListFacts.{length-low_first}
use Rattle.nr_files.proofs.marks.packed.Goals as goal

pub loop-i-init : goal.loop-i-init
loop-i-init c = grind arith

pub loop-i-preserved : goal.loop-i-preserved
loop-i-preserved c = record {
  so_far =
      let next : min (64 * (c.loop-i.i + 1)) (length c.args.marks.now) ≡ 64 * c.loop-i.i + c.min-wide.result = omega arith in
      let start : min (64 * c.loop-i.i) (length c.args.marks.now) ≡ 64 * c.loop-i.i = omega arith in
      let before = rw start at c.loop-i.invariant.so_far in
      rw (next, take-add) (cc);
  long = grind (arith, length-append, length-low_first);
  room = grind (arith, length-append, length-low_first);
}

pub returns : goal.returns
returns c = grind (arith, take_all)
