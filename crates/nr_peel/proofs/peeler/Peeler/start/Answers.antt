use Rattle.nr_peel.proofs.{Common.sym, Common.◌∙◌, Common.Lifted, Common.numbers, Common.set_below, FillerFacts.fillers_fit}
use Rattle.nr_peel.proofs.NothingHeardFacts.{pending_left}
use Rattle.nr_peel.proofs.peeler.Peeler.start.Goals as goal

-- at the start no position below K' is known
pub returns-clause-left : goal.returns-clause-left
returns-clause-left g c =
    let p = c.args.plan.now in
    let l : Lifted = record {
      table = c.args.table;
      plan = p;
      reciprocal = c.reciprocal.result;
      in_sets = set_below p.z p.set p.sound.set_is;
      inverse = c.reciprocal.ensures;
    } in
    pending_left c.args.table.now p.graph (numbers p) _ p.b c.has.ensures.table
    (sym c.has.ensures.value ∙ c.if-not-has.false) p.sound (fillers_fit l) c.in-Ok-new.ensures.started
