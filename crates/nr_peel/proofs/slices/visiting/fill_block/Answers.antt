use Rattle.nr_peel.proofs.Common.{arith, ap, ◌*◌, ◌∙◌, refl, slice}
use Rattle.nr_peel.proofs.SliceFacts.{filled_all, filled_entry, filled_none}
use Rattle.nr_peel.proofs.slices.visiting.fill_block.Goals as goal

pub loop-entry-init : goal.loop-entry-init
loop-entry-init c = record {
  filled = λ j p short. filled_none (slice c.args.sets.now j) c.args.lifted.now.plan.z (slice c.args.known.now j p);
  long = refl;
}

pub loop-entry-preserved : goal.loop-entry-preserved
loop-entry-preserved c = record {
  filled = λ j p short.
      filled_entry c.args.lifted.now.plan.z c.args.lifted.now.plan.set c.loop-entry.entry-index p _ _ c.args.row.now _ _
      (slice c.args.sets.now j) _ _ _ c.args.lifted.now.plan.sound.size_some c.loop-entry-test.true refl
      (ap (λ q. q * c.args.lifted.now.plan.z) c.from.ensures)
      c.rotation-rotation.ensures.value (c.loop-entry.invariant.filled j p short) (c.fill.ensures.filled j p short);
  long = c.fill.ensures.long ∙ c.loop-entry.invariant.long;
}

pub returns-clause-filled : goal.returns-clause-filled
returns-clause-filled c = λ j p short.
    filled_all c.args.lifted.now.plan.z c.args.lifted.now.plan.set c.loop-entry.entry-index p c.args.row.now
    (slice c.args.sets.now j) _ _ (omega arith) (c.loop-entry.invariant.filled j p short)
