use Rattle.std.proofs.Common.{◌∙◌, ap, Err, inl, refl}
use Rattle.std.proofs.lemmas.Result.{err_from_is_err_and}
use Rattle.nr_refusal.proofs.ResultFacts.{gives-err}
use Rattle.nr_calls.specs.declared.fault.Fault.TheVariants as fault
use Rattle.nr_calls.specs.inside.Words.{found_of_each}
use Rattle.nr_calls.proofs.many_rows.hear_many.Goals as goal

pub returns-in_err-many-clause-said : goal.returns-in_err-many-clause-said
returns-in_err-many-clause-said c =
    let p = err_from_is_err_and c.from_residual.result c.from_residual.ensures.1 in
    gives-err fault.Memory found_of_each c.from_residual.result fault.Memory _ (p.1 ∙ ap Err p.2) (inl refl)
