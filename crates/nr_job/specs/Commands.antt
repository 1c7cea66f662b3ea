-- The program's commands, each with the options that clap reads for it.
use Rattle.std.specs.Prelude.{[], ◌∷◌, Some, true, codes, pos}
use Rattle.clap.specs.Words.{App, Rule, Text, new_app, new_rule, with_rule}
use Rattle.clap.specs.declared.builder.value_parser.ValueParser.TheVariants as parsers

-- a required option, whose value is the path of a file
abbrev pub file_rule : Text → Rule
file_rule name = record (new_rule name) { long = Some name; required = true; value_names = 1 }

-- the option --rate: a number in 1..2048, and 2048 if it is left out
abbrev pub rate_rule : Rule
rate_rule = record (new_rule (codes "rate")) {
  long = Some (codes "rate");
  value_names = 1;
  defaults = codes "2048" ∷ [];
  parser = Some (parsers.Signed (pos 1) (pos 2048));
}

-- cut --blocks FILE [--rate N]
abbrev pub cut_app : App
cut_app = with_rule (with_rule (new_app (codes "cut")) (file_rule (codes "blocks"))) rate_rule

-- check --table FILE
abbrev pub check_app : App
check_app = with_rule (new_app (codes "check")) (file_rule (codes "table"))

-- a command with the options of four files
abbrev pub with_files : App → App
with_files app = with_rule (with_rule (with_rule (with_rule app (file_rule (codes "table")))
    (file_rule (codes "settings"))) (file_rule (codes "blocks"))) (file_rule (codes "schedule"))

-- NAME --table FILE --settings FILE --blocks FILE --schedule FILE: a command over four files, `send`, `run` or `audit`
abbrev pub files_app : Text → App
files_app name = with_files (new_app name)
