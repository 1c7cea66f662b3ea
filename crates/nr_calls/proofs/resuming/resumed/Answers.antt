use Rattle.nr_calls.proofs.resuming.resumed.Goals as goal

pub returns-in-Ok-clause-kept : goal.returns-in-Ok-clause-kept
returns-in-Ok-clause-kept c = rw (← c.in_ok-marks.ensures) c.in-Ok.ensures.takes.kept

pub returns-in-Ok-clause-outcome : goal.returns-in-Ok-clause-outcome
returns-in-Ok-clause-outcome c = rw (← c.in_ok-marks.ensures) c.in-Ok.ensures.takes.outcome
