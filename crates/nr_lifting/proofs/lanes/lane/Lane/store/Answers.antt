use Rattle.nr_lifting.proofs.{Names.arith, Names.◌∙◌, LaneMoveFacts.stored_more}
use Rattle.nr_lifting.proofs.lanes.lane.Lane.store.Goals as goal

-- the next word is put
pub loop-i-preserved : goal.loop-i-preserved
loop-i-preserved g c =
    let here = c.put.ensures in
    record {
      stored = stored_more _ _ _ _ _ _ _ _ c.loop-i.invariant.stored c.self.invariant.clear c.min.ensures
          (omega arith) here.within here.before here.after here.long;
      room = here.room ∙ c.loop-i.invariant.room;
    }
