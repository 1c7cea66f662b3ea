use Rattle.nr_blockdesk.proofs.Common.{Err, ap, ◌∙◌, arith, err_from_is_err_and, reception}
use Rattle.nr_blockdesk.proofs.{ReceptionFacts.reception-never_memory, TakingFacts.takes-memory, TakingFacts.takes-refused}
use Rattle.nr_blockdesk.proofs.receiver.Receiver.take.Goals as goal

pub returns-in_err-heard_lengths : goal.returns-in_err-heard_lengths
returns-in_err-heard_lengths g c =
    let p = err_from_is_err_and c.from_residual.result c.from_residual.ensures.1 in
    let x = reception c.args.tx.now c.args.heard.now in
    rw (← c.self.view_is)
    (takes-refused _ x c.from_residual.result c.in_err-heard_lengths.field-0.0 (p.1 ∙ ap Err p.2)
    c.in_err-heard_lengths.ensures.said
    (reception-never_memory c.self.inside.link.plan.c x))

pub returns-in_err-marks : goal.returns-in_err-marks
returns-in_err-marks g c = grind (arith, err_from_is_err_and, takes-memory)

pub returns : goal.returns
returns g c = rw (← c.in_ok-marks.ensures) c.take_marks.ensures
