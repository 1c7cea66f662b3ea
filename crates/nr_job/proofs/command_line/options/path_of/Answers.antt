use Rattle.nr_job.proofs.Common.{◌≡◌, ◌∙◌, None, Some, ap, sym, IfOk-weaker, found_of}
use Rattle.clap.proofs.WalkLemmas.{first_value-rows}
use Rattle.nr_job.proofs.command_line.options.path_of.Goals as goal

pub returns-in-Some-clause-path : goal.returns-in-Some-clause-path
returns-in-Some-clause-path c =
    IfOk-weaker c.owned.result _ _
    (λ own is. sym (first_value-rows (found_of c.args.matches.now) c.args.name.now) ∙ sym c.in-Some.ensures ∙ ap Some (sym is))
    c.owned.ensures.value

pub returns-in-None-clause-given : goal.returns-in-None-clause-given
returns-in-None-clause-given c = λ path given.
    let bad : None ≡ Some path =
    c.in-None.ensures ∙ first_value-rows (found_of c.args.matches.now) c.args.name.now ∙ given in
    cc
