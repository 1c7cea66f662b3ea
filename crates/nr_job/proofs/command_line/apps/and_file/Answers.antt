use Rattle.nr_job.proofs.Common.{◌∙◌, ap, IfOk-weaker, with_rule, file_rule}
use Rattle.nr_job.proofs.command_line.apps.and_file.Goals as goal

pub returns-in-Ok : goal.returns-in-Ok
returns-in-Ok c = λ app is.
    let made_so = rw c.in-Ok.is at is in
    IfOk-weaker c.with_file.result _ _
    (λ made added. added ∙ ap (λ a. with_rule a (file_rule c.args.name.now)) made_so) c.with_file.ensures
