use Rattle.nr_shifttable.proofs.{Common.sym, KeptItemFacts.kept-listed}
use Rattle.nr_shifttable.proofs.table.Table.of_entries.Goals as goal

pub of_ascending-requires-clause-ascending : goal.of_ascending-requires-clause-ascending
of_ascending-requires-clause-ascending c = sym c.in_ok-judge_places.ensures.said

pub returns-in-Ok-clause-listed : goal.returns-in-Ok-clause-listed
returns-in-Ok-clause-listed c =
    kept-listed c.args.entries.now c.in-Ok.table (sym c.in_ok-judge_places.ensures.said) c.in-Ok.ensures.said
