-- Each field is the name at its place.
use Rattle.nr_files.proofs.Common.{rules, ◌∙◌, ℕ, List, Bor, tests, bytes_eq, YieldsList-from_slice, fields_of}
use Rattle.nr_files.proofs.{Common.text_of_field, ColumnNameFacts.all-names, ColumnNameFacts.fields-yielded}
use Rattle.std.proofs.lemmas.{Iterator.YieldsList-from_zip, Iterator.Consumers.YieldsList-at, Iterator.Search.all_from_yields_List}
use Rattle.nr_files.proofs.schedule.columns.begins_names.Goals as goal

pub returns : goal.returns
returns c =
    all_from_yields_List (λ (p : List ℕ × Bor (List ℕ)). bytes_eq (text_of_field p.0) p.1.now) c.all.new.self _ c.all.result
    c.all.ensures.ran
    (YieldsList-from_zip {s = c.zip.result} (YieldsList-at c.zip.ensures.first (fields-yielded c.iter.result))
    (YieldsList-at c.zip.ensures.second (YieldsList-from_slice _ c.iter-2.ensures.rest)))
    (λ x b q k. search (rules, tests))
    ∙ rw (c.iter.ensures.at, c.iter.ensures.row) (all-names (fields_of c.args.row.now) _ c.requires)
