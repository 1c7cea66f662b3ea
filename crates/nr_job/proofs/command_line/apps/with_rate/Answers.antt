use Rattle.nr_job.proofs.Common.{◌∙◌, ap, IfOk-weaker, with_rule}
use Rattle.clap.specs.Words.{app_of}
use Rattle.nr_job.proofs.command_line.apps.with_rate.Goals as goal

pub returns : goal.returns
returns c =
    IfOk-weaker c.arg.result _ _
    (λ made adds. adds.shape c.rate_option.ensures.local
    ∙ ap (λ rule. with_rule (app_of c.args.command) rule) c.rate_option.ensures.rule)
    c.arg.ensures
