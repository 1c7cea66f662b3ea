use Rattle.nr_calls.{proofs.Common.◌∙◌, proofs.Common.sym, specs.Stages.is_told_at, proofs.RangeFacts.all-more}
use Rattle.nr_calls.proofs.StageFacts.{told-less, told-more}
use Rattle.nr_calls.proofs.stages.is_told.Goals.{then-told, else-told}
use Rattle.nr_calls.proofs.stages.is_told.Goals as goal

pub loop-n-preserved : goal.loop-n-preserved
loop-n-preserved c b z kdash k =
    let so_far = c.loop-n.invariant b z kdash k in
    elim c.if-told.branch [
      | then-told w ↦ told-more _ _ _ _ w.if-told.true so_far (w.told-is ∙ w.is_told_at-told.ensures b z kdash k)
          ∙ sym (all-more (is_told_at b c.args.d.now) c.loop-n.n)
      | else-told w ↦ told-less _ _ _ _ w.if-told.false so_far (w.told-is ∙ w.if-told.false)
          ∙ sym (all-more (is_told_at b c.args.d.now) c.loop-n.n)
    ]
