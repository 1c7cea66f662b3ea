use Rattle.nr_calls.proofs.drawing.nr_erase.Goals as goal

pub returns-clause-erased : goal.returns-clause-erased
returns-clause-erased c = c.overwrite.ensures
