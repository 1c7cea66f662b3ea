-- Definitions that only the proofs need.
use Rattle.std.specs.Prelude.{codes}
use Rattle.clap.specs.Words.{App}
use Rattle.nr_job.specs.{Commands.check_app, Commands.cut_app, Commands.files_app, declared.command_line.apps.Name.Name}
use Rattle.nr_job.specs.declared.command_line.apps.Name.TheVariants as names
use Rattle.nr_job.specs.declared.jobs.Job.{Job}
use Rattle.nr_job.specs.declared.jobs.Job.TheVariants.{Audit, Check, Cut, Run, Send}

-- the command of a name
abbrev pub named_app : Name → App
named_app names.Cut = cut_app
named_app names.Check = check_app
named_app names.Send = files_app (codes "send")
named_app names.Run = files_app (codes "run")
named_app names.Audit = files_app (codes "audit")

-- the name of a job's command
abbrev pub name_of : Job → Name
name_of (Cut rate path) = names.Cut
name_of (Check path) = names.Check
name_of (Send files) = names.Send
name_of (Run files) = names.Run
name_of (Audit files) = names.Audit
