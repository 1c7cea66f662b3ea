use Rattle.nr_calls.{specs.Keeping.kept_places, proofs.KeptReceiverFacts.taken-up}
use Rattle.nr_calls.proofs.keeping.nr_receiver_take.Goals as goal

pub returns-in-Ok-clause-said : goal.returns-in-Ok-clause-said
returns-in-Ok-clause-said c =
    let params = c.of-params.ensures in
    let said = rw (params.entries, params.settings, params.a, c.tx.ensures) at c.in-Ok.ensures.said in
    taken-up _ c.in-Ok.taken (kept_places c.args.room.now c.args.outcome.now c.args.left.now c.args.block.now)
    (kept_places c.write.new.room c.write.new.outcome c.write.new.left c.write.new.block) said c.write.ensures.room
    c.write.ensures.outcome
    c.write.ensures.left c.write.ensures.block
