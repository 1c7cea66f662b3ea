use Rattle.nr_peel.proofs.{Common.ℕ, Common.[], Common.bit, LaneSumFacts.summed_more}
use Rattle.nr_peel.proofs.bit_parallel.lanes.row_sum.Goals as goal

-- the next entry is summed
pub loop-entry-preserved : goal.loop-entry-preserved
loop-entry-preserved g c =
    let l = c.args.lifted.now in
    let added = rw (c.requires.same, c.from.ensures, c.rotation-rotation.ensures.value) at c.add_rotated.ensures.bits in
    let more = λ (t : ℕ). summed_more (bit c.args.bits.now.items) l.plan.set l.plan.z t c.loop-entry.entry-index c.args.row.now
    (record { row = 0; col = 0; values = [] }) c.loop-entry-test.true in
    record {
      sums = λ t below. cc (added t below, more t, c.loop-entry.invariant.sums t below);
      clear = rw c.requires.same at c.add_rotated.ensures.clear;
    }
