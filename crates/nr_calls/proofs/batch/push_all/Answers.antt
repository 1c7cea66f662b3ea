use Rattle.std.proofs.Common.{◌∙◌, refl, slice_index}
use Rattle.nr_calls.specs.inside.Batches.{column}
use Rattle.nr_calls.proofs.PlaceCountFacts.{entry-more}
use Rattle.nr_calls.proofs.SimulationFacts.{rows-more}
use Rattle.nr_calls.proofs.batch.push_all.Goals as goal

-- One more round: its number in `delivered` and its columns of `left` and `erased` follow those of the rounds before.
pub loop-j-preserved : goal.loop-j-preserved
loop-j-preserved c =
    let j = c.loop-j.j in
    let inv = c.loop-j.invariant in
    record {
      delivered = entry-more (slice_index c.args.batch.now.delivered) j _ _ _ _ c.in_ok-push.ensures.items inv.delivered refl;
      left = (rw c.deref.ensures.value at c.in_ok-push_column.ensures)
          ∙ rows-more (column c.args.batch.now.left.items) j _ _ _ inv.left refl;
      erased = (rw c.deref-in-loop-j.ensures.value at c.in_ok-push_column-2.ensures)
          ∙ rows-more (column c.args.batch.now.erased.items) j _ _ _ inv.erased refl;
    }
