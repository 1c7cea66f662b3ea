use Rattle.nr_job.proofs.Common.{codes, with_rule, file_rule}
use Rattle.clap.specs.Words.{app_of}
use Rattle.nr_job.proofs.command_line.apps.with_files.Goals as goal

pub returns : goal.returns
returns c =
    let first = with_rule (app_of c.args.command) (file_rule (codes "table")) in
    let second = with_rule first (file_rule (codes "settings")) in
    let third = with_rule second (file_rule (codes "blocks")) in
    c.and_file.ensures third (c.and_file-command-2.ensures second (c.and_file-command.ensures first c.with_file-command.ensures))
